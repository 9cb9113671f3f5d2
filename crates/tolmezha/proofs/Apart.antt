-- Each number back to the answer that has it.
-- Assumes nothing.
use Prim.Native.Nat.{ℕ, ◌^◌, ◌<◌}
use mathlib.Core.Path.{◌≡◌, refl, sym, ap, ◌∙◌}
use mathlib.Core.Bool.{cond}
use borrow.Author.Tests.{lt-ltb}
use lib.Dec.{eqb}
use lib.IntN.{ℤ, pos, negsuc}
use lib.Signed.{mag}
use Rattle.std.specs.Prelude.{Result, Ok, Err}
use Rattle.airframe.specs.declared.Refusal.{Refusal}
use Rattle.airframe.specs.declared.Refusal.TheVariants.{Field, Wrong, Room}
use Rattle.airframe.specs.declared.Left.{Left}
use Rattle.airframe.specs.declared.Left.TheVariants.{Nought, One, Two, Three}
use Rattle.airframe.specs.declared.Sending.TheVariants.{Awaiting}
use Rattle.airframe.specs.declared.Step.{Step}
use Rattle.airframe.specs.declared.Step.TheVariants.{Idle, Ended, Again, Lost}
use Rattle.airframe.specs.Building.{refusal_number, built_said}
use Rattle.tolmezha.specs.Numbers.{answered, state_of, sending_in, step_of}

abbrev built_by : ℤ → Result ℕ Refusal
built_by (pos n) = Ok n
built_by (negsuc n) = Err (cond (eqb n 19) Field (cond (eqb n 22) Wrong Room))

built_back : (r : Result ℕ Refusal) → built_by (answered (built_said r)) ≡ r
unfolding built_said refusal_number
built_back (Ok n) = refl
built_back (Err Field) = refl
built_back (Err Wrong) = refl
built_back (Err Room) = refl

abbrev step_by : ℤ → Step
step_by z = cond (eqb (mag z) 0) Idle (cond (eqb (mag z) 1) Ended (cond (eqb (mag z) 2) Again Lost))

step_back : (s : Step) → step_by (step_of s) ≡ s
step_back Idle = refl
step_back Ended = refl
step_back Again = refl
step_back Lost = refl

pub state_back : (code : ℕ) (left : Left) → code < 2 ^ 8 → sending_in (state_of (Awaiting code left)) ≡ Awaiting code left
unfolding sending_in
state_back code Nought h = rw (lt-ltb code (2 ^ 8) h)
state_back code One h = rw (lt-ltb code (2 ^ 8) h)
state_back code Two h = rw (lt-ltb code (2 ^ 8) h)
state_back code Three h = rw (lt-ltb code (2 ^ 8) h)

pub built_apart : (r s : Result ℕ Refusal) → answered (built_said r) ≡ answered (built_said s) → r ≡ s
built_apart r s e = sym (built_back r) ∙ ap built_by e ∙ built_back s

pub steps_apart : (r s : Step) → step_of r ≡ step_of s → r ≡ s
steps_apart r s e = sym (step_back r) ∙ ap step_by e ∙ step_back s
