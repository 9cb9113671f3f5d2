-- The test of two lists says whether they are one.
-- Assumes nothing.
use Prim.Native.Nat.{ℕ}
use mathlib.Core.Path.{◌≡◌, refl}
use mathlib.Core.Bool.{true, false≢true}
use mathlib.Core.List.{List, [], ◌∷◌}
use lib.Dec.{eqb}
use borrow.Author.Tests.{eqb-true, eq-eqb}
use Rattle.rows.specs.Same.{same_list}
use Rattle.rows.proofs.Bool.{and_left, and_right}

pub same_once : (a b : List ℕ) → same_list a b ≡ true → a ≡ b
unfolding same_list
same_once [] [] h = refl
same_once [] (y ∷ b) h = absurd (false≢true h)
same_once (x ∷ a) [] h = absurd (false≢true h)
same_once (x ∷ a) (y ∷ b) h =
    let front = eqb-true x y (and_left (eqb x y) (same_list a b) h) in
    let rest = same_once a b (and_right (eqb x y) (same_list a b) h) in
    cc

pub same_self : (a : List ℕ) → same_list a a ≡ true
unfolding same_list
same_self [] = refl
same_self (x ∷ a) = rw (eq-eqb x x refl, same_self a)
