-- Numbers one behind the other in a run of bytes, as a table lays them out: from it come the bytes, the numbers read and the length.
-- Assumes nothing.
use Rattle.std.specs.Prelude.{ℕ, ◌+◌, List, [], ◌∷◌, ◌++◌}
use Rattle.numbers.specs.Numbers.{high_first, number_at}

-- a line of such a table: which number of an A, and how many bytes it has
pub record Part (A : Type 0) : Type 0 where
  pub value : A → ℕ
  pub bytes : ℕ

abbrev pub part : {A : Type 0} → (A → ℕ) → ℕ → Part A
part v n = record { value = v; bytes = n }

-- how many bytes all have
abbrev pub bytes_of : {A : Type 0} → List (Part A) → ℕ
bytes_of [] = 0
bytes_of (p ∷ ps) = p.bytes + bytes_of ps

-- the bytes of an A
unfoldable pub laid_out : {A : Type 0} → List (Part A) → A → List ℕ
laid_out [] a = []
laid_out (p ∷ ps) a = high_first p.bytes (p.value a) ++ laid_out ps a

-- the numbers that stand in bytes from a place on
unfoldable pub numbers_at : {A : Type 0} → List (Part A) → List ℕ → ℕ → List ℕ
numbers_at [] s at = []
numbers_at (p ∷ ps) s at = number_at s at p.bytes ∷ numbers_at ps s (at + p.bytes)
