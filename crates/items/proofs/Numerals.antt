-- Digits written and read.
-- Assumes nothing.
use Prim.Native.Nat.{ℕ, ◌+◌, ◌-◌, ◌*◌, ◌/◌, ◌%◌, ◌≤◌, ◌<◌}
use native.Mathlib.Omega.{arith}
use mathlib.Core.Path.{◌≡◌, ap, ◌∙◌}
use mathlib.Core.Bool.{false, ◌&&◌, and-false}
use mathlib.Core.List.{[], ◌∷◌}
use lib.Dec.{ltb, leb}
use borrow.Author.Tests.{le-leb, lt-leb, lt-ltb, le-ltb, leb-true, ltb-true, ltb-false}
use Rattle.std.specs.Prelude.{Some}
use Rattle.std.proofs.lemmas.Option.{cond_some}
use Rattle.hexes.specs.Digits.{digit_of, byte_digits}
use Rattle.items.specs.Text.{digit_value, pair_in}
use Rattle.rows.proofs.Bool.{split, and_left, and_right}

-- a character from 48 to 57, from 65 to 70, and any other
value_low : (c : ℕ) → 48 ≤ c → c ≤ 57 → digit_value c ≡ c - 48
unfolding digit_value
value_low c h k = rw (le-leb 48 c h, le-leb c 57 k)

value_high : (c : ℕ) → 65 ≤ c → c ≤ 70 → digit_value c ≡ c - 55
unfolding digit_value
value_high c h k = rw (lt-leb c 57 (omega arith), and-false (leb 48 c), le-leb 65 c h, le-leb c 70 k)

value_none : (c : ℕ) → (leb 48 c && leb c 57) ≡ false → (leb 65 c && leb c 70) ≡ false → digit_value c ≡ 16
unfolding digit_value
value_none c e d = rw (e, d)

-- a digit written is read again
pub digit-back : (n : ℕ) → n < 16 → digit_value (digit_of n) ≡ n
digit-back n h =
    split (ltb n 10)
    (λ e. let k = ltb-true n 10 e in rw e (value_low (48 + n) (omega arith) (omega arith) ∙ omega arith))
    (λ e. let k = ltb-false n 10 e in rw e (value_high (55 + n) (omega arith) (omega arith) ∙ omega arith))

-- and a character that is read as a digit is that digit written
pub digit_is : (c : ℕ) → digit_value c < 16 → digit_of (digit_value c) ≡ c
digit_is c h =
    split (leb 48 c && leb c 57)
    (λ e.
    let a : 48 ≤ c = leb-true 48 c (and_left (leb 48 c) (leb c 57) e) in
    let b : c ≤ 57 = leb-true c 57 (and_right (leb 48 c) (leb c 57) e) in
    ap digit_of (value_low c a b) ∙ rw (lt-ltb (c - 48) 10 (omega arith)) (omega arith))
    (λ e.
    split (leb 65 c && leb c 70)
    (λ d.
    let a : 65 ≤ c = leb-true 65 c (and_left (leb 65 c) (leb c 70) d) in
    let b : c ≤ 70 = leb-true c 70 (and_right (leb 65 c) (leb c 70) d) in
    ap digit_of (value_high c a b) ∙ rw (le-ltb (c - 55) 10 (omega arith)) (omega arith))
    (λ d. absurd (omega (arith, value_none c e d))))

-- two digits
pub pair_back : (b : ℕ) → b < 256 → pair_in (digit_of (b / 16)) (digit_of (b % 16)) ≡ Some b
unfolding pair_in
pair_back b h =
    let whole : b / 16 * 16 + b % 16 ≡ b = omega arith in
    rw (digit-back (b / 16) (omega arith), digit-back (b % 16) (omega arith), lt-ltb (b / 16) 16 (omega arith), lt-ltb (b % 16) 16 (omega arith), whole)

-- where two characters are a pair, each is a digit, and they are the pair's digits
pub pair_is : (h l b : ℕ) → pair_in h l ≡ Some b → (b < 256) × (byte_digits b ≡ h ∷ l ∷ [])
unfolding pair_in
pair_is h l b p =
    let both = cond_some (ltb (digit_value h) 16 && ltb (digit_value l) 16) (digit_value h * 16 + digit_value l) b p in
    let d : digit_value h < 16 = ltb-true (digit_value h) 16 (and_left (ltb (digit_value h) 16) (ltb (digit_value l) 16) both.0) in
    let e : digit_value l < 16 = ltb-true (digit_value l) 16 (and_right (ltb (digit_value h) 16) (ltb (digit_value l) 16) both.0) in
    let v : digit_value h * 16 + digit_value l ≡ b = both.1 in
    let q : b / 16 ≡ digit_value h = omega arith in
    let r : b % 16 ≡ digit_value l = omega arith in (
      omega arith,
      ap (λ (x : ℕ). digit_of x ∷ digit_of (b % 16) ∷ []) q
          ∙ ap (λ (x : ℕ). digit_of (digit_value h) ∷ digit_of x ∷ []) r
          ∙ ap (λ (x : ℕ). x ∷ digit_of (digit_value l) ∷ []) (digit_is h d)
          ∙ ap (λ (x : ℕ). h ∷ x ∷ []) (digit_is l e),
    )
