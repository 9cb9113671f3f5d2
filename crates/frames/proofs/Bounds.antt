-- Samples within their bound: as a test of the list, and of each sample.
use Prim.Native.Nat.{ℕ, zero, suc, ◌+◌, ◌≤◌, ◌<◌}
use mathlib.Core.Path.{◌≡◌, refl}
use mathlib.Core.Bool.{true, false, and-false}
use mathlib.Core.List.{List, [], ◌∷◌, ◌++◌}
use native.Mathlib.Omega.{arith}
use native.Mathlib.Numerals.{add-one}
use borrow.Author.Tests.{leb-true, le-leb, lt-leb}
use lib.Dec.{leb}
use lib.ListN.{length, take, get_or}
use lib.Seq.{take-suc, take_all}
use Rattle.rows.proofs.Bool.{and_left, and_right}
use Rattle.frames.specs.Samples.{bounded_of}

-- samples that are bounded are each at most 1,023
pub each_bounded : (xs : List ℕ) (k : ℕ) → bounded_of xs ≡ true → get_or xs k 0 ≤ 1023
unfolding bounded_of
each_bounded [] k h = omega arith
each_bounded (x ∷ xs) zero h = leb-true x 1023 (and_left (leb x 1023) (bounded_of xs) h)
each_bounded (x ∷ xs) (suc k) h = each_bounded xs k (and_right (leb x 1023) (bounded_of xs) h)

-- one sample over, and they are not bounded
pub one_over : (xs : List ℕ) (k : ℕ) → 1023 < get_or xs k 0 → bounded_of xs ≡ false
unfolding bounded_of
one_over [] k h = let none : ◌<◌ 1023 0 = h in absurd (omega arith)
one_over (x ∷ xs) zero h = rw (lt-leb x 1023 h)
one_over (x ∷ xs) (suc k) h = rw (one_over xs k h) (and-false (leb x 1023))

bounded_snoc : (xs : List ℕ) (x : ℕ) → bounded_of xs ≡ true → x ≤ 1023 → bounded_of (xs ++ (x ∷ [])) ≡ true
unfolding bounded_of
bounded_snoc [] x h l = rw (le-leb x 1023 l)
bounded_snoc (y ∷ xs) x h l =
    let first : leb y 1023 ≡ true = and_left (leb y 1023) (bounded_of xs) h in
    rw (first, bounded_snoc xs x (and_right (leb y 1023) (bounded_of xs) h) l)

-- no samples are bounded
pub none_over : bounded_of [] ≡ true
unfolding bounded_of
none_over = refl

-- one sample more
pub one_within : (xs : List ℕ) (k : ℕ) → k < length xs → bounded_of (take k xs) ≡ true → get_or xs k 0 ≤ 1023 → bounded_of (take (k + 1) xs) ≡ true
one_within xs k h b l = rw (add-one, take-suc xs k 0 h) (bounded_snoc (take k xs) (get_or xs k 0) b l)

-- all of them
pub all_within : (xs : List ℕ) (n : ℕ) → length xs ≡ n → bounded_of (take n xs) ≡ true → bounded_of xs ≡ true
all_within xs n e b = rw (take_all n xs (omega arith)) at b

-- what a walk over the samples goes by
pub ruleset walked = (none_over, one_over, one_within, all_within)
