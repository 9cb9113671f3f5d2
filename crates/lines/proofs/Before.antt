-- The characters before a newline, from a place on.
-- Assumes nothing.
use Prim.Native.Nat.{ℕ, zero, suc, ◌+◌, ◌≤◌, ◌<◌}
use mathlib.Core.Path.{◌≡◌, refl, sym, ap, ◌∙◌}
use mathlib.Core.List.{List, [], ◌∷◌}
use native.Mathlib.Nat.{suc-add, suc-ne-zero, suc_inj}
use native.Mathlib.Omega.{arith}
use lib.Dec.{eqb}
use lib.ListN.{length, take, drop, get_or, drop_of_length-le, length-drop}
use borrow.Author.Tests.{ne_eqb}
use lib.Seq.{take-length}
use Rattle.scans.specs.Scans.{index_of, slice}
use Rattle.lines.specs.Cut.{before}
use Rattle.rows.proofs.Bool.{split}
use Rattle.items.proofs.Lists.{next}

-- any other character is one of them
pub past : (t : List ℕ) (i : ℕ) → i < length t → (get_or t i 0 ≡ 10 → ⊥) → before (drop i t) ≡ suc (before (drop (i + 1) t))
unfolding before
past t i h n = rw (next t i (i + 1) h refl, ne_eqb (get_or t i 0) 10 n)

-- at the end there are none
pub none_left : (t : List ℕ) (i : ℕ) → length t ≤ i → before (drop i t) ≡ 0
unfolding before
none_left t i h = rw (drop_of_length-le t {i = i} h)

-- over n characters none of which is a newline
pub over : (n : ℕ) (t : List ℕ) → before (take n t) ≡ n → before t ≡ n + before (drop n t)
unfolding before
over zero t e = omega arith
over (suc n) [] e = absurd (suc-ne-zero n (sym e))
over (suc n) (c ∷ t) e =
    split (eqb c 10) (λ y. absurd (suc-ne-zero n (sym (rw y at e)))) (λ y. rw y (ap suc (over n t (suc_inj (rw y at e))) ∙ sym (suc-add n (before (drop n t)))))

-- as many as stand before the first newline that is looked for
pub before_is : (t : List ℕ) → before t ≡ index_of 10 t
unfolding before index_of
before_is [] = refl
before_is (c ∷ cs) = split (eqb c 10) (λ e. rw e) (λ e. rw (e, before_is cs))

-- where the search for a newline ends, up to the end of the text
pub found_at : (t : List ℕ) (from r : ℕ) → r ≡ from + index_of 10 (slice from (length t) t) → r ≡ from + before (drop from t)
found_at t from r e = e ∙ ap (λ (l : List ℕ). from + index_of 10 (drop from l)) (take-length t) ∙ ap (λ (n : ℕ). from + n) (sym (before_is (drop from t)))

-- and that is within the text
pub before-most : (t : List ℕ) → before t ≤ length t
unfolding before
before-most [] = omega arith
before-most (c ∷ cs) = split (eqb c 10) (λ e. rw e (omega arith)) (λ e. rw e (omega (arith, before-most cs)))

pub end_within : (t : List ℕ) (from : ℕ) → from ≤ length t → from + before (drop from t) ≤ length t
end_within t from h = omega (arith, before-most (drop from t), length-drop from t)
