-- The samples and their averages, as document 01 has them under "Frames and pipe".
use Rattle.std.specs.Prelude.{ℕ, zero, suc, ◌+◌, ◌*◌, ◌/◌, Bool, true, ◌&&◌, List, [], ◌∷◌, map, leb, get_or}

-- the eight channels, numbered from 0
abbrev pub channels : List ℕ
channels = 0 ∷ 1 ∷ 2 ∷ 3 ∷ 4 ∷ 5 ∷ 6 ∷ 7 ∷ []

-- "eight channels by sixteen passes, pass after pass": the sample of a pass and a channel
unfoldable pub sample_at : List ℕ → ℕ → ℕ → ℕ
sample_at xs p c = get_or xs (p * 8 + c) 0

-- a channel's sum over the first n passes
unfoldable pub sum_of : ℕ → List ℕ → ℕ → ℕ
sum_of zero xs c = 0
sum_of (suc n) xs c = sum_of n xs c + sample_at xs n c

-- "each channel gives its sum divided by 16, rounded down": here over n passes
unfoldable pub average_of : ℕ → List ℕ → ℕ → ℕ
average_of n xs c = sum_of n xs c / n

-- the eight averages over n passes
unfoldable pub averages_of : ℕ → List ℕ → List ℕ
averages_of n xs = map (average_of n xs) channels

-- no "sample is over 1,023"
unfoldable pub bounded_of : List ℕ → Bool
bounded_of [] = true
bounded_of (x ∷ xs) = leb x 1023 && bounded_of xs
