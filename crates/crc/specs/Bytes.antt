-- The bytes of a number, as the private functions say them. No public promise cites it.
-- Assumes nothing.
use Rattle.std.specs.Prelude.{ℕ, zero, suc, ◌/◌, ◌%◌, List, [], ◌∷◌, ◌++◌}

-- the n lowest bytes of a number, the highest of them first
unfoldable pub crc_bytes : ℕ → ℕ → List ℕ
crc_bytes zero w = []
crc_bytes (suc n) w = crc_bytes n (w / 256) ++ (w % 256 ∷ [])
