-- Laws of exclusive or that lib.Bits does not have.
use mathlib.Core.Path.{◌≡◌, refl, sym, ap, ◌∙◌}
use Prim.Native.Nat.{ℕ, ◌+◌, ◌/◌, ◌%◌}
use native.Mathlib.Nat.{add_assoc}
use native.Mathlib.Omega.{arith}
use lib.Arith.{bin_ind}
use lib.Bits.{bit_xor, xor_add_and, xor_shr, xor_comm, xor_self, xor_zero_r}

xor_odd : (a b : ℕ) → bit_xor a b % 2 ≡ (a + b) % 2
xor_odd a b = omega (arith, xor_add_and a b)

odd_sum : (x y u v : ℕ) → x % 2 ≡ y % 2 → u % 2 ≡ v % 2 → (x + u) % 2 ≡ (y + v) % 2
odd_sum x y u v h l = omega arith

by_digits : (x y : ℕ) → x / 2 ≡ y / 2 → x % 2 ≡ y % 2 → x ≡ y
by_digits x y h l = omega arith

-- how three numbers are grouped does not matter
pub xor_assoc : (a b c : ℕ) → bit_xor (bit_xor a b) c ≡ bit_xor a (bit_xor b c)
xor_assoc a =
    bin_ind (λ (n : ℕ). (b c : ℕ) → bit_xor (bit_xor n b) c ≡ bit_xor n (bit_xor b c)) (λ b c. refl)
    (λ n ih b c. by_digits (bit_xor (bit_xor n b) c) (bit_xor n (bit_xor b c))
    (xor_shr (bit_xor n b) c 1 ∙ ap (λ (x : ℕ). bit_xor x (c / 2)) (xor_shr n b 1) ∙ ih (b / 2) (c / 2)
    ∙ ap (bit_xor (n / 2)) (sym (xor_shr b c 1)) ∙ sym (xor_shr n (bit_xor b c) 1))
    (xor_odd (bit_xor n b) c ∙ odd_sum (bit_xor n b) (n + b) c c (xor_odd n b) refl ∙ ap (λ (x : ℕ). x % 2) (add_assoc n b c)
    ∙ odd_sum n n (b + c) (bit_xor b c) refl (sym (xor_odd b c)) ∙ sym (xor_odd n (bit_xor b c)))) a

-- nor does the order of the inner two of four
pub xor_four : (a b c d : ℕ) → bit_xor (bit_xor a b) (bit_xor c d) ≡ bit_xor (bit_xor a c) (bit_xor b d)
xor_four a b c d =
    xor_assoc a b (bit_xor c d) ∙ ap (bit_xor a) (sym (xor_assoc b c d) ∙ ap (λ (x : ℕ). bit_xor x d) (xor_comm b c) ∙ xor_assoc c b d)
    ∙ sym (xor_assoc a c (bit_xor b d))

-- two numbers whose sum without carries is 0 are one
pub xor_apart : (a b : ℕ) → bit_xor a b ≡ 0 → a ≡ b
xor_apart a b e = sym (xor_zero_r a) ∙ ap (bit_xor a) (sym (xor_self b)) ∙ sym (xor_assoc a b b) ∙ ap (λ (x : ℕ). bit_xor x b) e
