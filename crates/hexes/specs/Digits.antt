-- "Bytes are pairs of capital hex digits": the characters of a number, the highest digit first.
-- Assumes nothing.
use Rattle.std.specs.Prelude.{cond, List, [], ◌∷◌, ◌++◌, ℕ, ◌+◌, ◌/◌, ◌%◌, ltb}

-- 0 to 9 stand at 48, A to F at 65
abbrev pub digit_of : ℕ → ℕ
digit_of n = cond (ltb n 10) (48 + n) (55 + n)

-- a byte is two digits
abbrev pub byte_digits : ℕ → List ℕ
byte_digits b = digit_of (b / 16) ∷ digit_of (b % 16) ∷ []

-- a word is the digits of its two bytes
abbrev pub word_digits : ℕ → List ℕ
word_digits w = byte_digits (w / 256) ++ byte_digits (w % 256)
