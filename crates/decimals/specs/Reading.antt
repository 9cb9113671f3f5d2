-- "Numbers are decimal, 1 to 10 digits, leading zeros allowed, with a leading `-` where they are negative (`-0` is 0)."
-- Assumes nothing.
use Rattle.std.specs.Prelude.{ℕ, ◌+◌, ◌-◌, ◌*◌, Bool, true, false, ◌&&◌, cond, List, [], ◌∷◌, map, ltb, leb, eqb, ◌==◌, length, drop, get_or, replicate, Option, Some, None, option_map}
use Rattle.std.specs.List.{slice_split}
use Rattle.std.proofs.lemmas.List.Edits.{sets}
use Rattle.items.specs.Characters.{space, dash, zero_digit}
use Rattle.decimals.specs.declared.Number.{Number}
use Rattle.decimals.specs.declared.Numbers.{Numbers}

abbrev pub is_digit : ℕ → Bool
is_digit c = leb zero_digit c && leb c (zero_digit + 9)

-- a digit's value
abbrev pub digit_in : ℕ → Option ℕ
digit_in c = cond (is_digit c) (Some (c - zero_digit)) None

-- the digits of a text behind a number that was read
unfoldable pub digits_from : ℕ → List ℕ → Option ℕ
digits_from n [] = Some n
digits_from n (c ∷ cs) = cond (is_digit c) (digits_from (n * 10 + (c - zero_digit)) cs) None

-- 1 to 10 digits
unfoldable pub digits_in : List ℕ → Option ℕ
digits_in t = cond (leb 1 (length t) && leb (length t) 10) (digits_from 0 t) None

abbrev pub number : Bool → ℕ → Number
number m n = record { minus = m; size = n }

-- "`-0` is 0"
abbrev pub is_below : Number → Bool
is_below n = n.minus && ltb 0 n.size

-- what a text is a number for
unfoldable pub number_in : List ℕ → Option Number
number_in t = cond (eqb (get_or t 0 0) dash) (option_map (number true) (digits_in (drop 1 t))) (option_map (number false) (digits_in t))

-- each after one space: what stands behind a name begins with one
unfoldable pub items_in : List ℕ → List (List ℕ)
items_in [] = []
items_in (c ∷ cs) = slice_split (λ b. b == space) cs

unfoldable pub numbers_in : List ℕ → List (Option Number)
numbers_in t = map number_in (items_in t)

-- how many, and the first nine
abbrev pub numbers_read : List (Option Number) → Numbers
numbers_read ns = record { count = length ns; list = sets (replicate 9 None) 0 ns }
