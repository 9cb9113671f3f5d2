-- An acknowledgement is read by the pod as the same, exactly where its first byte is within the bounds.
-- Assumes nothing.
use Prim.Native.Nat.{ℕ, ◌≤◌}
use native.Mathlib.Omega.{arith}
use mathlib.Core.Path.{◌≡◌, refl, ap, ◌∙◌}
use mathlib.Core.Bool.{Bool, true, false, not, ◌&&◌, ◌||◌}
use mathlib.Core.List.{List}
use borrow.Author.Tests.{leb-true}
use lib.Dec.{ltb, leb, eqb}
use lib.ListN.{length}
use Rattle.rows.proofs.Bool.{by-test, split, never, and_left, and_right, and_both}
use Rattle.packets.specs.declared.Parsed.{Parsed}
use Rattle.packets.specs.declared.Parsed.TheVariants.{Nothing, Error, Acknowledgement, Asked}
use Rattle.packets.specs.Commands.{code_row, is_code}
use Rattle.packets.specs.Reading.{first, second, third, crc_right, acknowledges, packet_read}
use Rattle.packets.specs.Answers.{with_crc, answer_of, error_answer, done_answer}
use Rattle.packets.proofs.Sent.{done-taken, error_taken}
use Rattle.packets.proofs.Laws.{done-length, error_length}
use Rattle.airframe.specs.declared.Form.{Form}
use Rattle.airframe.specs.declared.Form.TheVariants.{Taken, Failed}
use Rattle.airframe.specs.Building.{first_fits, acknowledgement_bytes, acknowledgement_built}
use Rattle.airframe.specs.Statements.{AcknowledgedIsRead, AcknowledgedExactly, AcknowledgementsApart}
use Rattle.airframe.proofs.Carried.{built}

pub five_bytes : (f : ℕ) (form : Form) → length (acknowledgement_bytes f form) ≤ 25
unfolding acknowledgement_bytes
five_bytes f Taken = omega (arith, done-length f)
five_bytes f (Failed e) = omega (arith, error_length f e)

-- ---- within the bounds it is read as the same

pub first_within : (f : ℕ) → first_fits f ≡ true → (0x90 ≤ f) × (f ≤ 0x9F)
unfolding first_fits
first_within f h = (leb-true 0x90 f (and_left (leb 0x90 f) (leb f 0x9F) h), leb-true f 0x9F (and_right (leb 0x90 f) (leb f 0x9F) h))

taken-read : (f : ℕ) → first_fits f ≡ true → packet_read (acknowledgement_bytes f Taken) ≡ Acknowledgement f true
unfolding acknowledgement_bytes
taken-read f h = done-taken f (first_within f h).0 (first_within f h).1

failed_read : (f e : ℕ) → first_fits f ≡ true → packet_read (acknowledgement_bytes f (Failed e)) ≡ Acknowledgement f false
unfolding acknowledgement_bytes
failed_read f e h = error_taken f e (first_within f h).0 (first_within f h).1

pub acknowledged_is_read : AcknowledgedIsRead
unfolding acknowledgement_built
acknowledged_is_read =
    record {
      as_taken =
          λ f room n said.
          let b = built (first_fits f) (acknowledgement_bytes f Taken) room n (five_bytes f Taken) said in
          ap packet_read b.1 ∙ taken-read f b.0;
      as_failed =
          λ f e room n said.
          let b = built (first_fits f) (acknowledgement_bytes f (Failed e)) room n (five_bytes f (Failed e)) said in
          ap packet_read b.1 ∙ failed_read f e b.0;
    }

-- ---- and outside them it is not

-- a reading is of an acknowledgement
is_acknowledgement : Parsed → Bool
is_acknowledgement Nothing = false
is_acknowledgement (Error f n) = false
is_acknowledgement (Acknowledgement f t) = true
is_acknowledgement (Asked c) = false

-- only what has the form is read as one
only-form : (p : List ℕ) → acknowledges p ≡ false → is_acknowledgement (packet_read p) ≡ false
unfolding packet_read is_acknowledgement
only-form p h =
    rw h (
    let C : Parsed → Type 0 = λ x. is_acknowledgement x ≡ false in
    by-test C (eqb (length p) 0) (λ _. refl)
    (λ _. by-test C (ltb (length p) 4 || not (crc_right p)) (λ _. refl)
    (λ _. by-test C (not (is_code (first p))) (λ _. refl)
    (λ _. by-test C (not (eqb (second p) 0x01)) (λ _. refl)
    (λ _. by-test C (not (eqb (length p) (code_row (first p)).bytes)) (λ _. refl) (λ _. refl))))))

has_form : (p : List ℕ) (f : ℕ) (t : Bool) → packet_read p ≡ Acknowledgement f t → acknowledges p ≡ true
unfolding is_acknowledgement
has_form p f t e = split (acknowledges p) (λ h. h) (λ h. never (ap is_acknowledgement e) (only-form p h))

-- and the form asks for the bounds
form-first : (p : List ℕ) → acknowledges p ≡ true → first_fits (first p) ≡ true
unfolding acknowledges first_fits
form-first p h =
    let o = eqb (length p) 5 && crc_right p in
    let l = leb 0x90 (first p) in
    let m = leb (first p) 0x9F in
    let k = and_left (o && l && m) (eqb (second p) 0x01 && eqb (third p) 0x7E || eqb (second p) 0x09) h in
    and_both (and_right o l (and_left (o && l) m k)) (and_right (o && l) m k)

pub acknowledged_exactly : AcknowledgedExactly
unfolding acknowledgement_bytes done_answer error_answer answer_of with_crc
acknowledged_exactly =
    record {
      when_taken = λ f. (taken-read f, λ e. form-first (acknowledgement_bytes f Taken) (has_form (acknowledgement_bytes f Taken) f true e));
      when_failed = λ f n. (failed_read f n, λ e. form-first (acknowledgement_bytes f (Failed n)) (has_form (acknowledgement_bytes f (Failed n)) f false e));
    }

-- ---- no two have the same bytes

pub acknowledgements_apart : AcknowledgementsApart
unfolding acknowledgement_bytes done_answer error_answer answer_of with_crc
acknowledgements_apart f g Taken Taken e = (ap first e, refl)
acknowledgements_apart f g Taken (Failed n) e = let z : ◌≡◌ {A = ℕ} 0x01 0x09 = ap second e in absurd (omega arith)
acknowledgements_apart f g (Failed m) Taken e = let z : ◌≡◌ {A = ℕ} 0x09 0x01 = ap second e in absurd (omega arith)
acknowledgements_apart f g (Failed m) (Failed n) e = (ap first e, ap Failed (ap third e))
