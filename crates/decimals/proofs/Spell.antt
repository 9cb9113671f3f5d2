-- Runs, a number at a time from the front.
-- Assumes nothing.
use Prim.Native.Nat.{ℕ, suc, ◌+◌, ◌<◌, ◌≤◌}
use native.Mathlib.Omega.{arith}
use native.Mathlib.Numerals.{add-one}
use mathlib.Core.Path.{◌≡◌, refl, sym, ap, ◌∙◌}
use mathlib.Core.List.{List, [], ◌∷◌, ◌++◌, map, append_assoc, append-nil}
use lib.IntN.{ℤ, pos, negsuc}
use lib.ListN.{length, drop, get_or, drop_of_length-le}
use lib.Seq.{drop-cons}
use Rattle.items.specs.Printed.{decimal}
use Rattle.items.proofs.Inked.{Inked, inked_both, decimal_inked}
use Rattle.decimals.specs.Printing.{signed_text, spelled, naturals}

-- the next item of a list, and what stands behind it
pub next {ℓ} : {A : Type ℓ} (l : List A) (i : ℕ) (d : A) → i < length l → drop i l ≡ get_or l i d ∷ drop (i + 1) l
next l i d h = drop-cons l i d h ∙ ap (λ (k : ℕ). get_or l i d ∷ drop k l) (sym (add-one i))

pub run_on : (l : List ℕ) (i : ℕ) → i < length l → spelled (naturals (drop i l)) ≡ ((32 ∷ []) ++ decimal (get_or l i 0)) ++ spelled (naturals (drop (i + 1) l))
unfolding spelled
run_on l i h = rw (next l i 0 h)

pub run_end : (l : List ℕ) (i : ℕ) → length l ≤ i → spelled (naturals (drop i l)) ≡ []
unfolding spelled
run_end l i h = rw (drop_of_length-le l {i = i} h)

-- the same of what is printed in decimal
module _ {A : Type 0} (f : A → ℤ) (l : List A) (i : ℕ) where
  pub numbers_on : (x : A) → i < length l → x ≡ get_or l i x → spelled (map f (drop i l)) ≡ ((32 ∷ []) ++ signed_text (f x)) ++ spelled (map f (drop (i + 1) l))
  unfolding spelled
  numbers_on x h is = rw (next l i x h, sym is)

  pub numbers_end : length l ≤ i → spelled (map f (drop i l)) ≡ []
  unfolding spelled
  numbers_end h = rw (drop_of_length-le l {i = i} h)

pub one_spelled : (z : ℤ) → (32 ∷ []) ++ signed_text z ≡ spelled (z ∷ [])
unfolding spelled
one_spelled z = rw (append-nil (signed_text z))

pub values_on : (l : List ℤ) (i : ℕ) → i < length l → spelled (drop i l) ≡ spelled (get_or l i (pos 0) ∷ []) ++ spelled (drop (i + 1) l)
unfolding spelled
values_on l i h = rw (next l i (pos 0) h, append-nil (signed_text (get_or l i (pos 0))))

pub values_end : (l : List ℤ) (i : ℕ) → length l ≤ i → spelled (drop i l) ≡ []
unfolding spelled
values_end l i h = rw (drop_of_length-le l {i = i} h)

-- a run of numbers behind another
pub spelled-both : (xs ys : List ℤ) → spelled (xs ++ ys) ≡ spelled xs ++ spelled ys
unfolding spelled
spelled-both [] ys = refl
spelled-both (x ∷ xs) ys = ap (λ (t : List ℕ). 32 ∷ (signed_text x ++ t)) (spelled-both xs ys) ∙ ap (λ (t : List ℕ). 32 ∷ t) (sym (append_assoc (signed_text x) (spelled xs) (spelled ys)))

-- no character of them is a newline
pub signed_inked : (z : ℤ) → Inked (signed_text z)
signed_inked (pos n) = decimal_inked n
signed_inked (negsuc n) = (omega arith, decimal_inked (suc n))

pub spelled_inked : (zs : List ℤ) → Inked (spelled zs)
unfolding spelled
spelled_inked [] = tt
spelled_inked (z ∷ zs) = (omega arith, inked_both (signed_text z) (spelled zs) (signed_inked z) (spelled_inked zs))
