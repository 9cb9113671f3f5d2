-- What was built, as one number.
-- Assumes nothing.
use Prim.Native.Nat.{ℕ, ◌<◌, ◌≤◌}
use native.Mathlib.Omega.{arith}
use mathlib.Core.Path.{◌≡◌, ap, ◌∙◌}
use mathlib.Core.Bool.{Bool, true, false, ◌&&◌, not, and-false}
use mathlib.Core.List.{List}
use borrow.Author.Tests.{lt-leb}
use lib.Dec.{ltb, leb}
use lib.IntN.{ℤ, negsuc}
use lib.ListN.{length}
use Rattle.rows.specs.Rows.{here, Said, gave, Out, out, ran}
use Rattle.rows.proofs.Laws.{gave_not}
use Rattle.rows.proofs.Bool.{split}
use Rattle.packets.specs.declared.Fields.{Fields}
use Rattle.packets.specs.declared.Command.{Command}
use Rattle.std.specs.Prelude.{Some, None, Result, Ok, Err, IfOk}
use Rattle.airframe.specs.declared.Refusal.{Refusal}
use Rattle.airframe.specs.declared.Form.{Form}
use Rattle.airframe.specs.Building.{first_fits, build_of, built_said}
use Rattle.airframe.specs.Given.{fields_nine, fields_typed, command_typed, given_in}
use Rattle.airframe.proofs.Lent as lent
use Rattle.airframe.proofs.Typed.{outside}
use Rattle.tolmezha.specs.Numbers.{answered, numbered, command_answered, form_wide, acknowledgement_answered}

abbrev Outcome : Type 0
Outcome = Out (Said ℕ) (Unit {0}) (List ℕ)

gave_same : {m n : ℕ} → ◌≡◌ {A = Said ℕ} (gave m) (gave n) → m ≡ n
gave_same e = cc

module _ (inside : Bool) (bytes room : List ℕ) where
  said_few : length bytes ≤ 25 → (n : ℕ) → gave n ≡ (build_of inside bytes room).said → n ≤ 25
  unfolding build_of ran
  said_few few n e =
      split inside
      (λ t.
      split (ltb (length room) 25)
      (λ s. absurd (gave_not (rw (t, s) at e)))
      (λ l. let same : n ≡ length bytes = gave_same (rw (t, l) at e) in omega arith))
      (λ f. absurd (gave_not (rw f at e)))

  few_said : length bytes ≤ 25 → (r : Result ℕ Refusal) → built_said r ≡ (build_of inside bytes room).said → IfOk r (λ n. n ≤ 25)
  unfolding built_said
  few_said few (Ok n) e = said_few few n e
  few_said few (Err why) e = tt

  module _ (r : Result ℕ Refusal) (room' : List ℕ) (b : out (built_said r) tt room' ≡ build_of inside bytes room) where
    pub few_built : length bytes ≤ 25 → IfOk r (λ n. n ≤ 25)
    few_built few = few_said few r (ap (λ (o : Outcome). o.said) b)

    pub as_number : (z : ℤ) → z ≡ answered (built_said r) → out z tt room' ≡ numbered (build_of inside bytes room)
    as_number z e = ap (λ (y : ℤ). out y tt room') e ∙ ap numbered b

  -- 20
  refused_number : inside ≡ false → out (negsuc 19) tt room ≡ numbered (build_of inside bytes room)
  refused_number e = ap numbered (lent.shut inside bytes room (here (ap not e)))

pub command-outside : (c : Command) (room : List ℕ) → command_typed c ≡ false → out (negsuc 19) tt room ≡ command_answered c room
unfolding command_answered
command-outside c room e = refused_number _ _ room (outside c e)

-- no first byte is over 255
pub first_large : (f : ℕ) → 255 < f → first_fits f ≡ false
unfolding first_fits
first_large f h = rw (lt-leb f 0x9F (omega arith), and-false (leb 0x90 f))

pub acknowledgement-outside : (f : ℕ) (form : Form) (room : List ℕ) → (first_fits f && form_wide form) ≡ false
    → out (negsuc 19) tt room ≡ acknowledgement_answered f form room
unfolding acknowledgement_answered
acknowledgement-outside f form room e = refused_number _ _ room e

-- ---- nine numbers

module _ (n : List ℕ) where
  -- none: they are outside
  pub given_none : None ≡ given_in n → fields_typed (fields_nine n) ≡ false
  unfolding given_in
  given_none e = split (fields_typed (fields_nine n)) (λ t. let z = rw t at e in cc) (λ no. no)

  pub given_some : (f : Fields) → Some f ≡ given_in n → (fields_typed f ≡ true) × (f ≡ fields_nine n)
  unfolding given_in
  given_some f e =
      split (fields_typed (fields_nine n))
      (λ t. let z = rw t at e in let same : f ≡ fields_nine n = cc in (ap (λ (g : Fields). fields_typed g) same ∙ t, same))
      (λ no. let z = rw no at e in cc)
