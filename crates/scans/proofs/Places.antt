-- A part of a text, and where a byte stands in it, as the library's `position` says it.
use Rattle.std.proofs.Common.{◌≡◌, ℕ, ◌+◌, ◌-◌, ◌≤◌, cond, ltb, eqb, Option, Some, None, List, length, take, drop, refl, sym, ap, ◌∙◌, arith, length-take, length-drop}
use Rattle.std.specs.List.{position_or_len}
use Rattle.std.proofs.lemmas.List.{drop-take}
use Rattle.std.proofs.lemmas.List.Recursion.{is_position_or_len}
use Rattle.std.proofs.lemmas.List.Sums.{prefix_len-le-length}
use Rattle.std.proofs.lemmas.Grind.{common_steps}
use Rattle.scans.specs.Scans.{index_of, slice}

place : (b : ℕ) (l : List ℕ) → index_of b l ≡ position_or_len (λ x. eqb x b) l
unfolding index_of
place b = is_position_or_len (index_of b) (λ x. eqb x b) refl (λ x xs. ap (cond (eqb x b) 0) (omega arith))

part : (from to : ℕ) (l : List ℕ) → from ≤ to → slice from to l ≡ take (to - from) (drop from l)
part from to l h =
    let e : from + (to - from) ≡ to = omega arith in
    ap (λ (n : ℕ). drop from (take n l)) (sym e) ∙ drop-take from (to - from) l

-- what `position` gives of the part
abbrev First : Option ℕ → ℕ → List ℕ → Type 0
First r b l = r ≡ cond (ltb (position_or_len (λ x. eqb x b) l) (length l)) (Some (position_or_len (λ x. eqb x b) l)) None

first_some : (b k : ℕ) (l : List ℕ) (r : Option ℕ) → First r b l → r ≡ Some k → k ≡ position_or_len (λ x. eqb x b) l
first_some b k l r f e = grind (arith, common_steps)

first_none : (b : ℕ) (l : List ℕ) (r : Option ℕ) → First r b l → r ≡ None → position_or_len (λ x. eqb x b) l ≡ length l
first_none b l r f e = grind (arith, common_steps, prefix_len-le-length)

pub found : (b from to k : ℕ) (t : List ℕ) (r : Option ℕ) → from ≤ to → First r b (take (to - from) (drop from t)) → r ≡ Some k
    → from + k ≡ from + index_of b (slice from to t)
found b from to k t r h f e = rw (place b (slice from to t), part from to t h) (ap (λ (n : ℕ). from + n) (first_some b k _ r f e))

pub nowhere : (b from to : ℕ) (t : List ℕ) (r : Option ℕ) → from ≤ to → to ≤ length t → First r b (take (to - from) (drop from t)) → r ≡ None
    → to ≡ from + index_of b (slice from to t)
nowhere b from to t r h l f e =
    rw (place b (slice from to t), part from to t h)
    (let n = first_none b (take (to - from) (drop from t)) r f e in simp (n, length-take, length-drop) (omega arith))
