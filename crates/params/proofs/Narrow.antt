-- A value in its row fits four bytes.
-- Assumes nothing.
use Prim.Native.Nat.{ℕ, zero, suc, ◌^◌, ◌<◌, ◌-◌}
use native.Mathlib.Omega.{arith}
use mathlib.Core.Path.{◌≡◌, refl}
use mathlib.Core.Bool.{Bool, true, ◌&&◌, false≢true}
use mathlib.Core.List.{List, [], ◌∷◌}
use borrow.Author.Tests.{leb-true, ltb-true}
use lib.Dec.{ltb}
use lib.IntN.{ℤ, pos, negsuc}
use lib.ListN.{get_or}
use lib.Signed.{le_z, mag}
use Rattle.rows.proofs.Bool.{and_left, and_right}
use Rattle.params.specs.declared.ParamRow.{ParamRow}
use Rattle.params.specs.declared.Params.{Params}
use Rattle.params.specs.Rows.{param_rows, no_param_row, param_row}
use Rattle.params.specs.Rules.{value_at, in_row, in_rows, sound_params}
use Rattle.params.proofs.Inside.{in_rows_lem}

-- a number of four bytes, and a row with two such ends
abbrev small : ℤ → Bool
small v = ltb (mag v) (2 ^ 31)

abbrev ends : ParamRow → Bool
ends r = small r.least && small r.most

-- what lies between two such numbers is one
between : (l m v : ℤ) → small l ≡ true → small m ≡ true → le_z l v ≡ true → le_z v m ≡ true → mag v < 2 ^ 31
between l (pos b) (pos x) f g h k = let y = leb-true x b k in let z = ltb-true b (2 ^ 31) g in omega arith
between l (negsuc b) (pos x) f g h k = absurd (false≢true k)
between (pos a) m (negsuc x) f g h k = absurd (false≢true h)
between (negsuc a) m (negsuc x) f g h k = let y = leb-true x a h in let z = ltb-true a (2 ^ 31) f in omega arith

in_ends : (r : ParamRow) (v : ℤ) → ends r ≡ true → in_row r v ≡ true → mag v < 2 ^ 31
in_ends r v e h =
    let a = small r.least in
    let b = small r.most in
    let x = le_z r.least v in
    let y = le_z v r.most in
    between r.least r.most v (and_left a b e) (and_right a b e) (and_left x y h) (and_right x y h)

-- every row of a table has such ends
unfoldable all_ends : List ParamRow → Bool
all_ends [] = true
all_ends (r ∷ rs) = ends r && all_ends rs

row_ends : (rs : List ParamRow) (k : ℕ) → all_ends rs ≡ true → ends (get_or rs k no_param_row) ≡ true
unfolding all_ends
row_ends [] k h = refl
row_ends (r ∷ rs) zero h = and_left (ends r) (all_ends rs) h
row_ends (r ∷ rs) (suc k) h = row_ends rs k (and_right (ends r) (all_ends rs) h)

-- a value in an id's row
pub row_small : (id : ℕ) (v : ℤ) → in_row (param_row id) v ≡ true → mag v < 2 ^ 31
unfolding all_ends
row_small id v h = in_ends (param_row id) v (row_ends param_rows (id - 1) refl) h

-- so each value of a sound state is one
in_own : (rs : List ParamRow) (vs : List ℤ) (k : ℕ) → in_rows rs vs ≡ true → in_row (get_or rs k no_param_row) (get_or vs k (pos 0)) ≡ true
unfolding in_rows
in_own [] [] k h = refl
in_own [] (v ∷ vs) k h = absurd (false≢true h)
in_own (r ∷ rs) [] k h = absurd (false≢true h)
in_own (r ∷ rs) (v ∷ vs) zero h = and_left (in_row r v) (in_rows rs vs) h
in_own (r ∷ rs) (v ∷ vs) (suc k) h = in_own rs vs k (and_right (in_row r v) (in_rows rs vs) h)

pub value_small : (p : Params) (id : ℕ) → sound_params p ≡ true → mag (value_at p id) < 2 ^ 31
value_small p id h = row_small id (value_at p id) (in_own param_rows p.values (id - 1) (in_rows_lem p h))
