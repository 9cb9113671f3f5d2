-- Numbers in bytes: high byte first, signed ones in two's complement. n is a count of bytes.
-- Assumes nothing.
use Rattle.std.specs.Prelude.{ℕ, zero, suc, ◌+◌, ◌*◌, ◌/◌, ◌%◌, ◌^◌, ◌-◌, List, [], ◌∷◌, cond, ltb, ℤ, pos, negsuc, length, take, drop}

-- all numbers on this port are high byte first: the n bytes of a number
unfoldable pub high_first : ℕ → ℕ → List ℕ
high_first zero x = []
high_first (suc n) x = x / 256 ^ n % 256 ∷ high_first n x

-- and the number that bytes stand for
unfoldable pub number_of : List ℕ → ℕ
number_of [] = 0
number_of (b ∷ bs) = b * 256 ^ length bs + number_of bs

-- the number of the n bytes from a place on
unfoldable pub number_at : List ℕ → ℕ → ℕ → ℕ
number_at bytes at n = number_of (take n (drop at bytes))

-- n bytes as a signed number: those from half the range on stand for what is the whole range less; `negsuc k` is -(k + 1)
unfoldable pub signed_of : ℕ → ℕ → ℤ
signed_of n u = cond (ltb u (256 ^ n / 2)) (pos u) (negsuc (256 ^ n - suc u))

-- and back: a number below 0 is sent as what is the whole range more
unfoldable pub unsigned_of : ℕ → ℤ → ℕ
unsigned_of n (pos x) = x
unsigned_of n (negsuc k) = 256 ^ n - suc k
