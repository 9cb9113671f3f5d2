-- Signed numbers in two's complement, for any count of bytes.
use Prim.Native.Nat.{ℕ, suc, ◌*◌, ◌/◌, ◌^◌, ◌<◌, ◌≤◌, ◌-◌}
use native.Mathlib.Omega.{arith}
use native.Mathlib.Nat.{pow-succ'}
use mathlib.Core.Path.{◌≡◌, ap, ◌∙◌}
use borrow.Author.Tests.{lt-ltb, le-ltb}
use lib.IntN.{ℤ, pos, negsuc}
use lib.Signed.{mag}
use Rattle.numbers.specs.Numbers.{signed_of, unsigned_of}

-- below half the range the bits are the number, from there on the number is the whole range less
pub low_is : (n u : ℕ) → u < 256 ^ n / 2 → signed_of n u ≡ pos u
unfolding signed_of
low_is n u h = simp (lt-ltb u (256 ^ n / 2) h)

pub high_is : (n u : ℕ) → 256 ^ n / 2 ≤ u → signed_of n u ≡ negsuc (256 ^ n - suc u)
unfolding signed_of
high_is n u h = simp (le-ltb u (256 ^ n / 2) h)

-- reading what was written gives it back, for any count of bytes but none
pub signed_back : (n : ℕ) (v : ℤ) → mag v < 256 ^ suc n / 2 → signed_of (suc n) (unsigned_of (suc n) v) ≡ v
unfolding unsigned_of
signed_back n (pos x) h = low_is (suc n) x h
signed_back n (negsuc k) h =
    let even : 256 ^ suc n ≡ 256 * 256 ^ n = pow-succ' 256 n in
    let h' : k < 256 ^ suc n / 2 = h in
    high_is (suc n) (256 ^ suc n - suc k) (omega arith) ∙ ap negsuc (omega arith)

-- a number that fits is sent as one below the whole range
pub unsigned_below : (n : ℕ) (v : ℤ) → mag v < 256 ^ suc n / 2 → unsigned_of (suc n) v < 256 ^ suc n
unfolding unsigned_of
unsigned_below n (pos x) h = let h' : x < 256 ^ suc n / 2 = h in omega arith
unsigned_below n (negsuc k) h = let h' : k < 256 ^ suc n / 2 = h in omega arith
