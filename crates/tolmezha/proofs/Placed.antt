-- Where the values lie, and what an answer can mean.
-- Assumes nothing.
use Prim.Native.Nat.{ℕ, ◌+◌, ◌^◌, ◌<◌, ◌≤◌}
use native.Mathlib.Omega.{arith}
use native.Mathlib.Nat.{zero-add}
use mathlib.Core.Path.{◌≡◌, refl, ap, ◌∙◌}
use mathlib.Core.Bool.{true, false}
use mathlib.Core.List.{List, [], ◌∷◌, ◌++◌, map, append-nil}
use Rattle.std.specs.Prelude.{Some}
use borrow.Author.Tests.{eqb-true, eqb-false}
use lib.Dec.{eqb}
use lib.IntN.{ℤ, pos}
use lib.ListN.{length, length-map, drop, drop_of_length-le, length-drop}
use lib.Seq.{sets, sets-eq, length-take-le}
use Rattle.rows.specs.Rows.{Said, refused, gave, out}
use Rattle.rows.proofs.Bool.{split}
use Rattle.packets.specs.Commands.{code_row, find_in}
use Rattle.packets.specs.Reading.{second}
use Rattle.packets.specs.Answers.{data_answer}
use Rattle.airframe.specs.declared.Left.TheVariants.{Nought, One, Two, Three}
use Rattle.airframe.specs.Reading.{Meant, done, failed, status, value, block, answer_right, ids_in, report_in, body_meant, read_as}
use Rattle.airframe.specs.Sending.{answer, heard_of}
use Rattle.airframe.proofs.Answers.{block_back}
use Rattle.airframe.proofs.Beside.{read-beside}
use Rattle.airframe.proofs.Due as due
use Rattle.tolmezha.specs.Numbers.{values_of, block_answered, sending_in}
use Rattle.tolmezha.specs.Statements.{Whole, LibraryReads}
use Rattle.tolmezha.proofs.Apart.{state_back}

-- ---- values

few_values : (m : Said Meant) → Whole m → length (values_of m) ≤ 13
unfolding Whole
few_values (refused n) w = omega arith
few_values (gave done) w = omega arith
few_values (gave (failed e)) w = omega arith
few_values (gave (status r q)) w =
    let eight : length r.ids ≡ 8 = w in
    let ids : length (map pos r.ids) ≡ 8 = length-map r.ids pos ∙ eight in
    omega arith
few_values (gave (value id v)) w = omega arith
few_values (gave (block b)) w = omega arith

pub placed : (m : Said Meant) (values : List ℤ) → length values ≡ 13 → Whole m
    → sets values 0 (values_of m) ≡ values_of m ++ drop (length (values_of m)) values
placed m values h w =
    sets-eq (values_of m) values 0 (omega (arith, few_values m w))
    ∙ ap (λ (k : ℕ). values_of m ++ drop k values) (zero-add (length (values_of m)))

-- ---- what an answer can mean

eight : (a : List ℕ) → length a ≡ 22 → length (ids_in a) ≡ 8
unfolding ids_in
eight a h = length-take-le 8 (drop 12 a) (rw (length-drop 12 a) (omega arith))

module _ (code : ℕ) (a : List ℕ) (right : answer_right code a ≡ true) (other : eqb (second a) 0x09 ≡ false) where
  by_code : Whole (read_as code a)
  unfolding Whole code_row find_in report_in body_meant
  by_code =
      split (eqb code 0x91)
      (λ e. let k = eqb-true code 0x91 e in rw (due.success code a right other 0x91 k) (eight a (due.whole code a right other 0x91 k)))
      (λ n. split (eqb code 0x94) (λ e. rw (due.success code a right other 0x94 (eqb-true code 0x94 e)) tt)
      (λ p. split (eqb code 0x95) (λ e. rw (due.success code a right other 0x95 (eqb-true code 0x95 e)) tt)
      (λ q. split (eqb code 0x96) (λ e. rw (due.success code a right other 0x96 (eqb-true code 0x96 e)) tt)
      (λ r. rw (due.plain code a right other (eqb-false code 0x91 n) (eqb-false code 0x94 p) (eqb-false code 0x95 q) (eqb-false code 0x96 r)) tt))))

whole : (code : ℕ) (a : List ℕ) → Whole (read_as code a)
unfolding Whole
whole code a =
    split (answer_right code a)
    (λ r. split (eqb (second a) 0x09) (λ e. rw (due.failure code a r e) tt) (λ o. by_code code a r o))
    (λ w. rw (due.unusable code a w) refl)

-- ---- a block

copied : (code : ℕ) (b room : List ℕ) → length b ≡ 256 → length room ≡ 256 → block_answered (data_answer code b) room ≡ out (pos 256) tt b
unfolding data_answer
copied code b room h k =
    let none : drop 256 room ≡ [] = drop_of_length-le room {i = 256} (omega arith) in
    let all : sets room 0 b ≡ b = sets-eq b room 0 (omega arith) ∙ rw (zero-add (length b), h, none) (append-nil b) in
    rw (block_back code b h, h, all)

-- ---- a reply

up : {k n : ℕ} → k ≤ n → (n ≡ k → ⊥) → k + 1 ≤ n
up h n = omega (arith, n)

over : {n : ℕ} → 4 + 1 ≤ n → n ≤ 4 → ⊥
over h k = omega arith

module _ (code sends : ℕ) (a : List ℕ) (small : code < 2 ^ 8) (some_left : 1 ≤ sends) (four : sends ≤ 4) where
  heard : (heard_of (sending_in (code ∷ sends ∷ [])) (answer a)).meant ≡ Some (read_as code a)
  heard =
      split (eqb sends 1) (λ e. rw (eqb-true sends 1 e, state_back code Nought small) (read-beside.an_answer code Nought a))
      (λ n. split (eqb sends 2) (λ e. rw (eqb-true sends 2 e, state_back code One small) (read-beside.an_answer code One a))
      (λ p. split (eqb sends 3) (λ e. rw (eqb-true sends 3 e, state_back code Two small) (read-beside.an_answer code Two a))
      (λ q. split (eqb sends 4) (λ e. rw (eqb-true sends 4 e, state_back code Three small) (read-beside.an_answer code Three a))
      (λ r. absurd (over (up (up (up (up some_left (eqb-false sends 1 n)) (eqb-false sends 2 p)) (eqb-false sends 3 q)) (eqb-false sends 4 r)) four)))))

pub library_reads : LibraryReads
library_reads =
    record {
      whole = whole;
      placed = placed;
      copied = copied;
      replied = λ code sends a kind values c s f. rw (heard code sends a c s f);
    }
