-- Numbers as bytes, high byte first: for any count of bytes, and of two and four as the library has them.
use Prim.Native.Nat.{ℕ, zero, suc, ◌+◌, ◌*◌, ◌/◌, ◌%◌, ◌^◌, ◌<◌, ◌≤◌}
use native.Mathlib.Omega.{arith}
use native.Mathlib.Nat.{pow-succ', mod-eq_of_lt, one-le-pow}
use native.Mathlib.Numerals.{add-one}
use mathlib.Core.Path.{◌≡◌, refl, sym, ap, ◌∙◌}
use mathlib.Core.List.{List}
use lib.Arith.{mod-mul}
use lib.ListN.{length, get_or}
use lib.Seq.{drop-cons}
use Rattle.std.specs.Int.{w16, w32, to_be_bytes}
use Rattle.numbers.specs.Numbers.{high_first, number_of, number_at}

-- n bytes are as many as they should be
pub high_first-length : (n x : ℕ) → length (high_first n x) ≡ n
unfolding high_first
high_first-length zero x = refl
high_first-length (suc n) x = ap suc (high_first-length n x)

-- the n bytes of a number stand for what is left of it below 256 ^ n
low_part : (n x : ℕ) → number_of (high_first n x) ≡ x % 256 ^ n
unfolding high_first number_of
low_part zero x = omega arith
low_part (suc n) x =
    rw (high_first-length n x, low_part n x, pow-succ' 256 n)
    (sym (mod-mul x {m = 256} {c = 256 ^ n} (omega arith) (one-le-pow n 256 (omega arith))))

-- reading what was written gives it back, for any count of bytes
pub number-back : (n x : ℕ) → x < 256 ^ n → number_of (high_first n x) ≡ x
number-back n x h = low_part n x ∙ mod-eq_of_lt h

-- one byte
pub one_number : (s : List ℕ) (at : ℕ) → at < length s → number_at s at 1 ≡ get_or s at 0
unfolding number_of number_at
one_number s at h = rw (drop-cons s at 0 h) (omega arith)

-- two bytes, each at its weight
pub two_number : (s : List ℕ) (at : ℕ) → at + 2 ≤ length s → number_at s at 2 ≡ get_or s at 0 * 256 + get_or s (at + 1) 0
unfolding number_of number_at
two_number s at h =
    rw (add-one, drop-cons s at 0 (omega arith), drop-cons s (suc at) 0 (omega arith)) (omega arith)

-- four bytes, each at its weight
pub four_number : (s : List ℕ) (at : ℕ) → at + 4 ≤ length s
    → number_at s at 4 ≡ get_or s at 0 * 0x100_0000 + get_or s (at + 1) 0 * 0x1_0000 + get_or s (at + 2) 0 * 256 + get_or s (at + 3) 0
unfolding number_of number_at
four_number s at h =
    let third : at + 2 ≡ suc (suc at) = omega arith in
    let fourth : at + 3 ≡ suc (suc (suc at)) = omega arith in
    rw (add-one, third, fourth, drop-cons s at 0 (omega arith), drop-cons s (suc at) 0 (omega arith), drop-cons s (suc (suc at)) 0 (omega arith), drop-cons s (suc (suc (suc at))) 0 (omega arith))
    (omega arith)

-- the bytes of a number as the library has them
pub two_bytes : (x : ℕ) → to_be_bytes w16 x ≡ high_first 2 x
unfolding high_first
two_bytes x = let low : x / 1 % 256 ≡ x % 256 = omega arith in rw low

pub four_bytes : (x : ℕ) → to_be_bytes w32 x ≡ high_first 4 x
unfolding high_first
four_bytes x = let low : x / 1 % 256 ≡ x % 256 = omega arith in rw low

pub ruleset library_bytes = (two_bytes, four_bytes)
