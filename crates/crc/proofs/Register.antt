-- The register of 16 bits: it is carried on from bytes to bytes, stays below 2 ^ 16, and is linear.
use mathlib.Core.Path.{◌≡◌, refl, ap, ap₂, ◌∙◌}
use mathlib.Core.List.{List, [], ◌∷◌, ◌++◌}
use Prim.Native.Nat.{ℕ, zero, suc, ◌*◌, ◌/◌, ◌%◌, ◌^◌, ◌<◌}
use native.Mathlib.Omega.{arith}
use lib.Bits.{bit_xor, xor_shr, xor_mod, xor_lt}
use Rattle.crc.specs.Crc.{poly, leaving, bit_in, bit, bits, bits_in, crc_from}
use Rattle.crc.proofs.Xor.{xor_four}
use Rattle.crc.proofs.Linear.{lin_up}

-- one byte more
unfoldable pub byte_in : ℕ → ℕ → ℕ
byte_in c b = crc_from c (b ∷ [])

pub from-none : (c : ℕ) → crc_from c [] ≡ c
unfolding crc_from bits_in bits
from-none c = refl

pub from_one : (c b : ℕ) → crc_from c (b ∷ []) ≡ byte_in c b
unfolding byte_in
from_one c b = refl

pub from_cons : (c b : ℕ) (bs : List ℕ) → crc_from c (b ∷ bs) ≡ crc_from (byte_in c b) bs
unfolding crc_from bits_in bits byte_in
from_cons c b bs = refl

pub from-append : (c : ℕ) (xs ys : List ℕ) → crc_from c (xs ++ ys) ≡ crc_from (crc_from c xs) ys
from-append c [] ys = rw from-none
from-append c (x ∷ xs) ys = rw (from_cons, from_cons c x xs) (from-append (byte_in c x) xs ys)

-- ---- it stays below 2 ^ 16

leaving-lt : (c m : ℕ) → leaving c m < 2
unfolding leaving
leaving-lt c m = omega arith

bit_in-lt : (c m : ℕ) → bit_in c m < 2 ^ 16
unfolding bit_in poly
bit_in-lt c m = xor_lt 16 (leaving c m * poly) (c % 2 ^ 15 * 2) (omega (arith, leaving-lt c m)) (omega arith)

pub byte_in-lt : (c b : ℕ) → byte_in c b < 2 ^ 16
unfolding byte_in crc_from bits_in bits
byte_in-lt c b = bit_in-lt _ _

pub from-lt : (c : ℕ) (bs : List ℕ) → c < 2 ^ 16 → crc_from c bs < 2 ^ 16
from-lt c [] h = rw from-none h
from-lt c (b ∷ bs) h = rw from_cons (from-lt (byte_in c b) bs (byte_in-lt c b))

-- ---- the sums of two registers and of two messages give the sum of what they give

poly-xor : (u v : ℕ) → u < 2 → v < 2 → bit_xor u v * poly ≡ bit_xor (u * poly) (v * poly)
unfolding poly
poly-xor zero zero h l = refl
poly-xor zero (suc zero) h l = refl
poly-xor zero (suc (suc v)) h l = absurd (omega arith)
poly-xor (suc zero) zero h l = refl
poly-xor (suc zero) (suc zero) h l = refl
poly-xor (suc zero) (suc (suc v)) h l = absurd (omega arith)
poly-xor (suc (suc u)) v h l = absurd (omega arith)

leaving-xor : (a b m n : ℕ) → leaving (bit_xor a b) (bit_xor m n) ≡ bit_xor (leaving a m) (leaving b n)
unfolding leaving
leaving-xor a b m n =
    ap (λ (x : ℕ). bit_xor x (bit_xor m n) % 2) (xor_shr a b 15) ∙ ap (λ (x : ℕ). x % 2) (xor_four (a / 2 ^ 15) (b / 2 ^ 15) m n)
    ∙ xor_mod (bit_xor (a / 2 ^ 15) m) (bit_xor (b / 2 ^ 15) n) 1

bit_in-xor : (a b m n : ℕ) → bit_in (bit_xor a b) (bit_xor m n) ≡ bit_xor (bit_in a m) (bit_in b n)
unfolding bit_in
bit_in-xor a b m n =
    ap₂ bit_xor
    (ap (λ (x : ℕ). x * poly) (leaving-xor a b m n) ∙ poly-xor (leaving a m) (leaving b n) (leaving-lt a m) (leaving-lt b n))
    (ap (λ (x : ℕ). x * 2) (xor_mod a b 15) ∙ lin_up 1 (a % 2 ^ 15) (b % 2 ^ 15))
    ∙ xor_four (leaving a m * poly) (leaving b n * poly) (a % 2 ^ 15 * 2) (b % 2 ^ 15 * 2)

bit-xor : (x y k : ℕ) → bit (bit_xor x y) k ≡ bit_xor (bit x k) (bit y k)
bit-xor x y k = ap (λ (z : ℕ). z % 2) (xor_shr x y k) ∙ xor_mod (x / 2 ^ k) (y / 2 ^ k) 1

pub byte_in-xor : (a b x y : ℕ) → byte_in (bit_xor a b) (bit_xor x y) ≡ bit_xor (byte_in a x) (byte_in b y)
unfolding byte_in crc_from bits_in bits
byte_in-xor a b x y =
    rw (bit-xor x y 7, bit-xor x y 6, bit-xor x y 5, bit-xor x y 4, bit-xor x y 3, bit-xor x y 2, bit-xor x y 1, bit-xor x y 0)
    (simp bit_in-xor)
