-- Linear functions: the shifts of the code are, and two of them are equal if they are at the powers of 2.
use mathlib.Core.Path.{◌≡◌, refl, sym, ap, ap₂, ◌∙◌}
use mathlib.Core.Bool.{Bool, true, false, ◌&&◌}
use Prim.Native.Nat.{ℕ, zero, suc, ◌*◌, ◌/◌, ◌%◌, ◌^◌, ◌<◌}
use native.Mathlib.Nat.{zero-mul, one-mul, mod-lt, mod-le, div-le_self, add-zero, div-lt_iff_lt-mul, pow-succ'}
use native.Mathlib.Omega.{arith}
use lib.Dec.{T, eqb, eqb→eq}
use lib.Arith.{lt-one}
use lib.Pow.{pow_pos, split}
use lib.Bits.{bit_xor, xor_self, xor_shr, xor_mod, xor_shifted, xor_block, xor_lt}
use Rattle.crc.proofs.Xor.{xor_four}

-- sums without carries go through
abbrev pub Linear : (ℕ → ℕ) → Type 0
Linear f = (a b : ℕ) → f (bit_xor a b) ≡ bit_xor (f a) (f b)

pub lin_up : (k : ℕ) → Linear (λ x. x * 2 ^ k)
lin_up k a b =
    sym (ap₂ bit_xor (sym (add-zero (a * 2 ^ k))) (sym (add-zero (b * 2 ^ k))) ∙ xor_block k a b 0 0 (pow_pos k) (pow_pos k) ∙ add-zero (bit_xor a b * 2 ^ k))

-- the shifts of the code as terms: down, the low digits, up and out of n digits, and sums of them
pub data Shifts : Type 0 where
  plain : Shifts
  down : ℕ → Shifts → Shifts
  low : ℕ → Shifts → Shifts
  up : ℕ → Shifts → Shifts
  sum : Shifts → Shifts → Shifts

abbrev pub shifts : ℕ → Shifts → ℕ → ℕ
shifts n plain x = x
shifts n (down k e) x = shifts n e x / 2 ^ k
shifts n (low k e) x = shifts n e x % 2 ^ k
shifts n (up k e) x = shifts n e x * 2 ^ k % 2 ^ n
shifts n (sum d e) x = bit_xor (shifts n d x) (shifts n e x)

pub linear : (n : ℕ) (e : Shifts) → Linear (shifts n e)
linear n plain a b = refl
linear n (down k e) a b = ap (λ (x : ℕ). x / 2 ^ k) (linear n e a b) ∙ xor_shr (shifts n e a) (shifts n e b) k
linear n (low k e) a b = ap (λ (x : ℕ). x % 2 ^ k) (linear n e a b) ∙ xor_mod (shifts n e a) (shifts n e b) k
linear n (up k e) a b =
    ap (λ (x : ℕ). x % 2 ^ n) (ap (λ (x : ℕ). x * 2 ^ k) (linear n e a b) ∙ lin_up k (shifts n e a) (shifts n e b))
    ∙ xor_mod (shifts n e a * 2 ^ k) (shifts n e b * 2 ^ k) n
linear n (sum d e) a b = ap₂ bit_xor (linear n d a b) (linear n e a b) ∙ xor_four (shifts n d a) (shifts n d b) (shifts n e a) (shifts n e b)

-- and a number of n digits stays one
pub shifts_fit : (n : ℕ) (e : Shifts) (x : ℕ) → x < 2 ^ n → shifts n e x < 2 ^ n
shifts_fit n plain x h = h
shifts_fit n (down k e) x h = let was = shifts_fit n e x h in let less = div-le_self (shifts n e x) (2 ^ k) in omega arith
shifts_fit n (low k e) x h = let was = shifts_fit n e x h in let less = mod-le (shifts n e x) (2 ^ k) in omega arith
shifts_fit n (up k e) x h = mod-lt (shifts n e x * 2 ^ k) (pow_pos n)
shifts_fit n (sum d e) x h = xor_lt n (shifts n d x) (shifts n e x) (shifts_fit n d x h) (shifts_fit n e x h)

-- f and g agree at 1, 2, 4 and on to the power n - 1: a test that is computed
abbrev pub same : (ℕ → ℕ) → (ℕ → ℕ) → ℕ → Bool
same f g zero = true
same f g (suc n) = eqb (f (2 ^ n)) (g (2 ^ n)) && same f g n

both : (a b : Bool) → T (a && b) → T a × T b
both true b t = (tt, t)
both false b t = absurd t

at_zero : (f : ℕ → ℕ) → Linear f → f 0 ≡ 0
at_zero f l = l 0 0 ∙ xor_self (f 0)

at-digit : (f g : ℕ → ℕ) → Linear f → Linear g → (n t : ℕ) → t < 2 → f (2 ^ n) ≡ g (2 ^ n) → f (t * 2 ^ n) ≡ g (t * 2 ^ n)
at-digit f g l m n zero h e = rw zero-mul (at_zero f l ∙ sym (at_zero g m))
at-digit f g l m n (suc zero) h e = rw one-mul e
at-digit f g l m n (suc (suc t)) h e = absurd (omega arith)

-- so they agree at every number of n digits
pub basis : (f g : ℕ → ℕ) → Linear f → Linear g → (n : ℕ) → T (same f g n) → (x : ℕ) → x < 2 ^ n → f x ≡ g x
basis f g l m zero t x h = rw (lt-one h) (at_zero f l ∙ sym (at_zero g m))
basis f g l m (suc n) t x h =
    let tests = both (eqb (f (2 ^ n)) (g (2 ^ n))) (same f g n) t in
    let top = x / 2 ^ n in
    let low = x % 2 ^ n in
    let whole : bit_xor (top * 2 ^ n) low ≡ x = xor_shifted top n low (mod-lt x (pow_pos n)) ∙ split x n in
    ap f (sym whole) ∙ l (top * 2 ^ n) low
    ∙ ap₂ bit_xor
    (at-digit f g l m n top ((div-lt_iff_lt-mul (pow_pos n)).1 (rw pow-succ' at h)) (eqb→eq (f (2 ^ n)) (g (2 ^ n)) tests.0))
    (basis f g l m n tests.1 low (mod-lt x (pow_pos n)))
    ∙ sym (m (top * 2 ^ n) low) ∙ ap g whole
