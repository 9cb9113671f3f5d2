-- What is printed, character by character, and how many characters it is.
-- Assumes nothing.
use Prim.Native.Nat.{ℕ, ◌+◌, ◌*◌, ◌/◌, ◌%◌, ◌≤◌, ◌<◌}
use native.Mathlib.Omega.{arith}
use borrow.Author.Tests.{lt-ltb, le-ltb}
use mathlib.Core.Path.{◌≡◌, refl}
use mathlib.Core.List.{List, [], ◌∷◌, ◌++◌}
use lib.ListN.{length, drop, get_or, drop_of_length-le}
use Rattle.hexes.specs.Digits.{byte_digits}
use Rattle.items.specs.Text.{spell}
use Rattle.items.specs.Printed.{answer_line, bytes_line, digits_of, decimal, refused_line}
use Rattle.items.proofs.Lists.{next}

-- the next byte
pub spell_on : (bs : List ℕ) (i : ℕ) → i < length bs → spell (drop i bs) ≡ (32 ∷ byte_digits (get_or bs i 0)) ++ spell (drop (i + 1) bs)
unfolding spell
spell_on bs i h = rw (next bs i (i + 1) h refl)

-- no byte
pub spell_end : (bs : List ℕ) (i : ℕ) → length bs ≤ i → spell (drop i bs) ≡ []
unfolding spell
spell_end bs i h = rw (drop_of_length-le bs {i = i} h)

-- three characters a byte
pub spell-length : (bs : List ℕ) → length (spell bs) ≡ 3 * length bs
unfolding spell
spell-length [] = refl
spell-length (b ∷ bs) = omega (arith, spell-length bs)

-- a line of no bytes ..
pub none_line : (c : ℕ) (bs : List ℕ) → length bs ≡ 0 → bytes_line c bs ≡ c ∷ 32 ∷ 45 ∷ 10 ∷ []
unfolding bytes_line answer_line
none_line c [] h = refl
none_line c (b ∷ bs) h = absurd (omega arith)

-- .. and of some
pub some_line : (c : ℕ) (bs : List ℕ) → (length bs ≡ 0 → ⊥) → bytes_line c bs ≡ (c ∷ []) ++ (spell bs ++ (10 ∷ []))
unfolding bytes_line answer_line
some_line c [] h = absurd (h refl)
some_line c (b ∷ bs) h = refl

-- a refusal's number has one digit ..
pub one_digit : (c n : ℕ) → n < 10 → refused_line c n ≡ c ∷ 32 ∷ 33 ∷ (48 + n) ∷ 10 ∷ []
unfolding refused_line decimal digits_of
one_digit c n h = rw (lt-ltb n 10 h)

-- .. or two
pub two_digits : (c n : ℕ) → 10 ≤ n → n < 100 → refused_line c n ≡ c ∷ 32 ∷ 33 ∷ (48 + n / 10) ∷ (48 + n % 10) ∷ 10 ∷ []
unfolding refused_line decimal digits_of
two_digits c n h k = rw (le-ltb n 10 h, lt-ltb (n / 10) 10 (omega arith))
