-- The packet table: where a byte stands in it.
use Prim.Native.Nat.{ℕ}
use mathlib.Core.Path.{◌≡◌}
use mathlib.Core.List.{List, [], ◌∷◌}
use mathlib.Core.Bool.{true, or-false, false≢true}
use borrow.Author.Tests.{ne_eqb, eqb-true}
use lib.Dec.{eqb}
use Rattle.rows.proofs.Bool.{by-test}
use Rattle.packets.specs.Commands.{CommandRow, command_rows, find_in, listed_in, code_row, is_code}

-- a code that is none of the first seven is the last
pub last_code : (k : ℕ) → is_code k ≡ true → (k ≡ 0x90 → ⊥) → (k ≡ 0x91 → ⊥) → (k ≡ 0x92 → ⊥) → (k ≡ 0x93 → ⊥) → (k ≡ 0x94 → ⊥)
    → (k ≡ 0x95 → ⊥) → (k ≡ 0x96 → ⊥) → k ≡ 0x9F
unfolding is_code listed_in
last_code k t a b c d e f g =
    eqb-true k 0x9F (simp (ne_eqb k 0x90 a, ne_eqb k 0x91 b, ne_eqb k 0x92 c, ne_eqb k 0x93 d, ne_eqb k 0x94 e, ne_eqb k 0x95 f, ne_eqb k 0x96 g, or-false (eqb k 0x9F)) at t)

-- what each row has, the row of a code has
abbrev pub Each : (CommandRow → Type 0) → List CommandRow → Type 0
Each P [] = Unit {0}
Each P (r ∷ rs) = P r × Each P rs

listed : (P : CommandRow → Type 0) (rs : List CommandRow) (k : ℕ) → Each P rs → listed_in rs k ≡ true → P (find_in rs k)
unfolding listed_in find_in
listed P [] k e h = absurd (false≢true h)
listed P (r ∷ rs) k e h = by-test P (eqb k r.code) (λ t. e.0) (λ t. listed P rs k e.1 (simp t at h))

pub of_code : (P : CommandRow → Type 0) (k : ℕ) → Each P command_rows → is_code k ≡ true → P (code_row k)
unfolding is_code code_row
of_code P k = listed P command_rows k
