-- What holds of the averages, over any pass count.
use Prim.Native.Nat.{ℕ, zero, suc, ◌+◌, ◌*◌, ◌/◌, ◌%◌, ◌^◌, ◌≤◌, ◌<◌}
use mathlib.Core.Path.{◌≡◌, refl, ap}
use mathlib.Core.Bool.{true}
use mathlib.Core.List.{List}
use native.Mathlib.Omega.{arith}
use native.Mathlib.Nat.{add-mul, div-le_of_le-mul, div-mul-le_self, lt-div-mul-add}
use lib.ListN.{get_or}
use Rattle.frames.specs.Samples.{sample_at, sum_of, average_of, averages_of, bounded_of}
use Rattle.frames.proofs.Sums.{sum-most}
use Rattle.frames.proofs.Eight.{eight_at}

-- sample k is channel k mod 8 of pass k div 8
pub sample_place : (xs : List ℕ) (k : ℕ) → get_or xs k 0 ≡ sample_at xs (k / 8) (k % 8)
unfolding sample_at
sample_place xs k = let place : k / 8 * 8 + k % 8 ≡ k = omega arith in rw place

-- averages over bounded samples fit ten bits
pub average_fits : (n : ℕ) (xs : List ℕ) (c : ℕ) → bounded_of xs ≡ true → average_of n xs c < 2 ^ 10
unfolding average_of
average_fits n xs c h = let most : sum_of n xs c / n ≤ 1023 = div-le_of_le-mul n (sum-most n xs c h) in omega arith

-- an average is the sum over n rounded down: n times it is not over the sum, and n times one more is
pub rounded_down : (n : ℕ) (xs : List ℕ) (c : ℕ) → 1 ≤ n → (average_of n xs c * n ≤ sum_of n xs c) × (sum_of n xs c < (average_of n xs c + 1) * n)
unfolding average_of
rounded_down n xs c l =
    let s : ℕ = sum_of n xs c in
    let over : s < s / n * n + n = lt-div-mul-add l in
    let one : (s / n + 1) * n ≡ s / n * n + 1 * n = add-mul (s / n) 1 n in
    (div-mul-le_self s n, omega arith)

same_sums : (n : ℕ) (xs ys : List ℕ) (c : ℕ) → ((p : ℕ) → p < n → sample_at xs p c ≡ sample_at ys p c) → sum_of n xs c ≡ sum_of n ys c
unfolding sum_of
same_sums zero xs ys c same = refl
same_sums (suc n) xs ys c same =
    let before = same_sums n xs ys c (λ p h. same p (omega arith)) in
    let last = same n (omega arith) in
    omega arith

-- a channel's average comes from its own samples in these passes and from no others
pub own_samples : (n : ℕ) (xs ys : List ℕ) (c : ℕ) → ((p : ℕ) → p < n → sample_at xs p c ≡ sample_at ys p c) → average_of n xs c ≡ average_of n ys c
unfolding average_of
own_samples n xs ys c same = ap (λ (s : ℕ). s / n) (same_sums n xs ys c same)

-- the average at a channel's place
pub averages_at : (n : ℕ) (xs : List ℕ) (c : ℕ) → c < 8 → get_or (averages_of n xs) c 0 ≡ average_of n xs c
unfolding averages_of
averages_at n xs c h = eight_at (average_of n xs) c h
