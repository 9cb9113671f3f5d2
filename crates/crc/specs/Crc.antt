-- CRC-16: polynomial 0x1021, start 0xFFFF, the high bit of each byte first, no reflection, no final change (CRC-16/IBM-3740).
-- Assumes nothing.
use Rattle.std.specs.Prelude.{ℕ, ◌+◌, ◌-◌, ◌*◌, ◌/◌, ◌%◌, ◌^◌, List, [], ◌∷◌}
use Rattle.std.specs.Int.Bits.{bit_xor}

-- "polynomial 0x1021": x ^ 16 + x ^ 12 + x ^ 5 + 1 without its highest term, which falls out of the register
unfoldable pub poly : ℕ
poly = 2 ^ 12 + 2 ^ 5 + 1

-- the bit that leaves a register of 16 bits, with the bit m of the message added without a carry
unfoldable pub leaving : ℕ → ℕ → ℕ
leaving c m = bit_xor (c / 2 ^ 15) m % 2

-- one bit of the message: the register moves up by one place, and the polynomial is added to it if that bit is 1
unfoldable pub bit_in : ℕ → ℕ → ℕ
bit_in c m = bit_xor (leaving c m * poly) (c % 2 ^ 15 * 2)

-- the bit of a byte that stands at the place k
abbrev pub bit : ℕ → ℕ → ℕ
bit b k = b / 2 ^ k % 2

-- "high bit first, no reflection": the bits of the bytes in their order
unfoldable pub bits : List ℕ → List ℕ
bits [] = []
bits (b ∷ bs) = bit b 7 ∷ bit b 6 ∷ bit b 5 ∷ bit b 4 ∷ bit b 3 ∷ bit b 2 ∷ bit b 1 ∷ bit b 0 ∷ bits bs

-- the bits into the register, one after the other, and "no final change"
unfoldable pub bits_in : ℕ → List ℕ → ℕ
bits_in c [] = c
bits_in c (m ∷ ms) = bits_in (bit_in c m) ms

-- the register c after some bytes more
unfoldable pub crc_from : ℕ → List ℕ → ℕ
crc_from c bytes = bits_in c (bits bytes)

-- "start 0xFFFF"
unfoldable pub crc_of : List ℕ → ℕ
crc_of bytes = crc_from (2 ^ 16 - 1) bytes
