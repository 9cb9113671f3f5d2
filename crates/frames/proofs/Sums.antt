-- The sums over the passes, channel by channel.
use Prim.Native.Nat.{ℕ, zero, suc, ◌+◌, ◌*◌, ◌/◌, ◌≤◌, ◌<◌}
use mathlib.Core.Path.{◌≡◌, refl}
use mathlib.Core.Bool.{true}
use mathlib.Core.List.{List, map}
use native.Mathlib.Omega.{arith}
use native.Mathlib.Numerals.{add-one}
use lib.ListN.{length, get_or}
use Rattle.frames.specs.Samples.{channels, sample_at, sum_of, average_of, averages_of, bounded_of}
use Rattle.frames.proofs.Eight.{eight_at}
use Rattle.frames.proofs.Bounds.{each_bounded}

-- the eight sums after n passes
abbrev pub sums_of : ℕ → List ℕ → List ℕ
sums_of n xs = map (sum_of n xs) channels

-- the sum at a channel's place
pub sums_at : (n : ℕ) (xs : List ℕ) (c : ℕ) → c < 8 → get_or (sums_of n xs) c 0 ≡ sum_of n xs c
sums_at n xs c h = eight_at (sum_of n xs) c h

-- there are eight sums
pub length_sums : (n : ℕ) (xs : List ℕ) → length (sums_of n xs) ≡ 8
length_sums n xs = refl

-- before the first pass every sum is 0
pub sums_none : (xs : List ℕ) → sums_of 0 xs ≡ map (λ (c : ℕ). 0) channels
unfolding sum_of
sums_none xs = refl

-- one pass more
pub sum_more : (p : ℕ) (xs : List ℕ) (c : ℕ) → sum_of (p + 1) xs c ≡ sum_of p xs c + get_or xs (p * 8 + c) 0
unfolding sum_of sample_at
sum_more p xs c = rw add-one

-- sums over bounded samples are at most 1,023 a pass
pub sum-most : (n : ℕ) (xs : List ℕ) (c : ℕ) → bounded_of xs ≡ true → sum_of n xs c ≤ n * 1023
unfolding sum_of sample_at
sum-most zero xs c h = omega arith
sum-most (suc n) xs c h =
    let before = sum-most n xs c h in
    let one = each_bounded xs (n * 8 + c) h in
    omega arith

-- the averages over n passes are the sums over them divided by n
pub averages_divided : (n : ℕ) (xs : List ℕ) → averages_of n xs ≡ map (λ (s : ℕ). s / n) (sums_of n xs)
unfolding averages_of average_of
averages_divided n xs = refl
