-- `crc::crc_of`: in both loops the rest of the bytes still brings the register to the value for all of them.
use Rattle.std.proofs.Common.{◌≡◌, ◌+◌, ◌*◌, ◌/◌, ◌<◌, ◌^◌, length, drop}
use Rattle.crc.specs.Crc.{crc_from, crc_of}
use Rattle.crc.proofs.Fold.{fold}
use Rattle.crc.proofs.crc_of.Given as goal

abbrev pub invariant-loop-word : goal.invariant-loop-word
invariant-loop-word l = (l.s < 2 ^ 64) × (crc_from (fold l.s) (drop (l.word-index * 8) l.bytes) ≡ crc_of l.bytes)

abbrev pub invariant-loop-pair : goal.invariant-loop-pair
invariant-loop-pair l = crc_from l.c (drop (length l.bytes / 8 * 8 + l.pair-index * 2) l.bytes) ≡ crc_of l.bytes
