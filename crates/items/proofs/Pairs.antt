-- Two digits at once, one in each byte of a number of 16 bits.
-- Assumes nothing.
use mathlib.Core.Path.{◌≡◌, refl, ap, ap₂, ◌∙◌}
use Rattle.std.specs.Prelude.{Some, None}
use mathlib.Core.Bool.{Bool, true, false, and-false, cond}
use Prim.Native.Nat.{ℕ, ◌+◌, ◌-◌, ◌*◌, ◌/◌, ◌%◌, ◌^◌, ◌<◌, ◌≤◌}
use native.Mathlib.Omega.{arith}
use lib.Dec.{eqb, ltb}
use lib.Bits.{bit_and, and_block, and_mask}
use lib.Pow.{pow_mono}
use borrow.Author.Tests.{eqb-true, eq-eqb, lt-ltb}
use Rattle.items.specs.Text.{digit_value, pair_in}
use Rattle.rows.proofs.Bool.{split, every, every-at}

-- the k lowest digits of both bytes
both_low : (k a r : ℕ) → k ≤ 8 → r < 256 → bit_and (a * 256 + r) ((2 ^ k - 1) * 256 + (2 ^ k - 1)) ≡ (a % 2 ^ k) * 256 + r % 2 ^ k
both_low k a r h l = and_block 8 a (2 ^ k - 1) r (2 ^ k - 1) l (omega (arith, pow_mono h)) ∙ rw (and_mask a k, and_mask r k)

-- what a character's value would be
abbrev sum : ℕ → ℕ
sum c = c % 16 + c / 64 * 9

abbrev pub digit : ℕ → ℕ
digit c = sum c % 16

-- and how that value is written
abbrev pub again : ℕ → ℕ
again c = digit c + 48 + (digit c + 6) / 16 % 2 * 7

-- the two ways of reading a character agree: a test that is computed
abbrev test : ℕ → Bool
test c = cond (eqb (again c) c) (eqb (digit_value c) (digit c)) (eqb (digit_value c) 16)

all : every test 256 ≡ true
unfolding digit_value
all = refl

right : (c : ℕ) → c < 256 → eqb (again c) c ≡ true → digit_value c ≡ digit c
right c h e = eqb-true (digit_value c) (digit c) (rw e at (every-at test 256 c all h))

wrong : (c : ℕ) → c < 256 → eqb (again c) c ≡ false → digit_value c ≡ 16
wrong c h e = eqb-true (digit_value c) 16 (rw e at (every-at test 256 c all h))

-- bytes that make the same number are the same
apart : (a b c d : ℕ) → b < 256 → d < 256 → a * 256 + b ≡ c * 256 + d → (a ≡ c) × (b ≡ d)
apart a b c d h l e = (omega arith, omega arith)

digit-small : (c : ℕ) → digit c < 16
digit-small c = omega arith

again_byte : (c : ℕ) → again c < 256
again_byte c = omega arith

turned : (a b : ℕ) → a < 16 → b < 16 → ((a * 256 + b) * 16 + (a * 256 + b) / 256) % 256 ≡ b * 16 + a
turned a b h l = let above : (a * 256 + b) / 256 ≡ a = omega arith in rw above (omega arith)

module _ (h l : ℕ) (hb : h < 256) (lb : l < 256) where
  sums : bit_and (l * 256 + h) 3855 + bit_and ((l * 256 + h) / 64) 771 * 9 ≡ sum l * 256 + sum h
  sums =
      let cut : (l * 256 + h) / 64 ≡ l / 64 * 256 + (l % 64 * 4 + h / 64) = omega arith in
      rw (both_low 4 l h (omega arith) hb, cut, both_low 2 (l / 64) (l % 64 * 4 + h / 64) (omega arith) (omega arith)) (omega arith)

  pub values : bit_and (bit_and (l * 256 + h) 3855 + bit_and ((l * 256 + h) / 64) 771 * 9) 3855 ≡ digit l * 256 + digit h
  values = rw sums (both_low 4 (sum l) (sum h) (omega arith) (omega arith))

  pub written : digit l * 256 + digit h + 12336 + bit_and ((digit l * 256 + digit h + 1542) / 16) 257 * 7 ≡ again l * 256 + again h
  written =
      let cut : (digit l * 256 + digit h + 1542) / 16 ≡ (digit l + 6) / 16 * 256 + ((digit l + 6) % 16 * 16 + (digit h + 6) / 16) = omega arith in
      rw (cut, both_low 1 ((digit l + 6) / 16) ((digit l + 6) % 16 * 16 + (digit h + 6) / 16) (omega arith) (omega arith)) (omega arith)

  -- both are written as they came: two digits
  pub paired : again l * 256 + again h ≡ l * 256 + h → Some (((digit l * 256 + digit h) * 16 + (digit l * 256 + digit h) / 256) % 256) ≡ pair_in h l
  unfolding pair_in
  paired e =
      let same = apart (again l) (again h) l h (again_byte h) hb e in
      rw (
        right h hb (eq-eqb (again h) h same.1),
        right l lb (eq-eqb (again l) l same.0),
        lt-ltb (digit h) 16 (digit-small h),
        lt-ltb (digit l) 16 (digit-small l),
      ) (ap (λ (b : ℕ). Some b) (turned (digit l) (digit h) (digit-small l) (digit-small h)))

  -- one of them is not
  pub unpaired : (again l * 256 + again h ≡ l * 256 + h → ⊥) → None ≡ pair_in h l
  unfolding pair_in
  unpaired n =
      split (eqb (again h) h)
      (λ e.
      split (eqb (again l) l) (λ f. absurd (n (ap₂ (λ (x y : ℕ). x * 256 + y) (eqb-true (again l) l f) (eqb-true (again h) h e))))
      (λ f. rw (wrong l lb f, and-false (ltb (digit_value h) 16))))
      (λ e. rw (wrong h hb e))
