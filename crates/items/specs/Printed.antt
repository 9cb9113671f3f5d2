-- The lines that are printed: a letter, what it answers, and the newline.
-- Assumes nothing.
use Rattle.std.specs.Prelude.{List, [], ◌∷◌, ◌++◌, ℕ, zero, suc, ◌+◌, ◌/◌, ◌%◌, cond, ltb}
use Rattle.hexes.specs.Digits.{word_digits}
use Rattle.items.specs.Characters.{newline, space, bang, dash, zero_digit}
use Rattle.items.specs.Text.{spell}

-- "the answer in the same form, `P -` for an answer of length 0"
unfoldable pub answer_line : List ℕ → List ℕ
answer_line [] = space ∷ dash ∷ []
answer_line (b ∷ bs) = spell (b ∷ bs)

-- a letter and bytes
unfoldable pub bytes_line : ℕ → List ℕ → List ℕ
bytes_line c bs = c ∷ (answer_line bs ++ (newline ∷ []))

-- a letter and a word
unfoldable pub word_line : ℕ → ℕ → List ℕ
word_line c w = c ∷ space ∷ (word_digits w ++ (newline ∷ []))

-- a letter alone; `?` is printed so too
unfoldable pub bare_line : ℕ → List ℕ
bare_line c = c ∷ newline ∷ []

-- at most so many decimal digits, the highest first
unfoldable pub digits_of : ℕ → ℕ → List ℕ
digits_of zero n = []
digits_of (suc k) n = cond (ltb n 10) ((zero_digit + n) ∷ []) (digits_of k (n / 10) ++ ((zero_digit + n % 10) ∷ []))

-- a number of 64 bits has at most twenty
unfoldable pub decimal : ℕ → List ℕ
decimal n = digits_of 20 n

-- "a refused call prints the letter, a space, `!` and the number"
unfoldable pub refused_line : ℕ → ℕ → List ℕ
refused_line c n = c ∷ space ∷ bang ∷ (decimal n ++ (newline ∷ []))
