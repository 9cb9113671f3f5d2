-- An open gate's rows are clear, and a shut gate names the first row that holds.
-- Assumes nothing.
use mathlib.Core.Path.{◌≡◌, subst}
use mathlib.Core.List.{List, ◌∷◌}
use Prim.Native.Nat.{ℕ}
use mathlib.Core.Bool.{Bool, true, false}
use borrow.Author.Tests.{eq-eqb, ne_eqb, le-leb, lt-leb}
use Rattle.std.specs.Prelude.{Result, Ok, Err}
use Rattle.rows.specs.Rows.{Row, row, First, here, after, Clear, none, past}
use Rattle.rows.proofs.Laws.{refused_is, given_is}
use Rattle.rules.specs.declared.Refusal.{Refusal}
use Rattle.rules.specs.Refusals.{refusal_number}
use Rattle.gates.specs.Gates.{Gated}

pub open_clear : {A : Type 0} {g : Result A Refusal} {x : A} {rs : List Row} → g ≡ Ok x → Gated g rs → Clear rs
open_clear {A} {rs = rs} e h = subst (λ (g : Result A Refusal). Gated g rs) e h

pub shut-first : {A : Type 0} {g : Result A Refusal} {why : Refusal} {rs : List Row} → g ≡ Err why → Gated g rs → First (refusal_number why) rs
shut-first {A} {rs = rs} e h = subst (λ (g : Result A Refusal). Gated g rs) e h

-- ---- a gate, row by row, from what the test of each row says

-- this row holds
pub stops : {n : ℕ} {b : Bool} {rs : List Row} → b ≡ true → First n (row n b ∷ rs)
stops h = here h

-- this row doesn't
pub goes_on : {n m : ℕ} {b : Bool} {rs : List Row} → b ≡ false → First n rs → First n (row m b ∷ rs)
goes_on h f = after h f

pub passes : {m : ℕ} {b : Bool} {rs : List Row} → b ≡ false → Clear rs → Clear (row m b ∷ rs)
passes h k = past h k

pub ruleset gating = (stops, goes_on, passes, none, eq-eqb, ne_eqb, le-leb, lt-leb)

-- ---- a call, by its gate: shut, all is as it came; open, its effect

pub ruleset calling = (refused_is, given_is)
