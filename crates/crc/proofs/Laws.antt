-- What a caller may want to know of the CRC, without opening it.
use mathlib.Core.List.{List}
use Prim.Native.Nat.{ℕ, ◌-◌, ◌^◌, ◌<◌}
use native.Mathlib.Omega.{arith}
use Rattle.crc.specs.Crc.{crc_of}
use Rattle.crc.proofs.Register.{from-lt}

-- it is a number of 16 bits
pub below : (xs : List ℕ) → crc_of xs < 65536
unfolding crc_of
below xs = from-lt (2 ^ 16 - 1) xs (omega arith)
