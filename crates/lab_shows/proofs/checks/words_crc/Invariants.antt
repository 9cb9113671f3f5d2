use Rattle.std.proofs.Common.{◌≡◌, ◌*◌, take}
use Rattle.lab_shows.specs.Shown.{word_bytes}
use Rattle.lab_shows.proofs.checks.words_crc.Given as goal

-- the bytes of the words so far
abbrev pub invariant-loop-i : goal.invariant-loop-i
invariant-loop-i l = take (2 * l.i) l.bytes ≡ word_bytes (take l.i l.words)
