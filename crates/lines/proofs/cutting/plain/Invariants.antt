use Rattle.std.proofs.Common.{◌≡◌, true, ◌+◌, drop}
use Rattle.lines.specs.Cut.{before}
use Rattle.lines.proofs.cutting.plain.Given as goal

-- no newline stands among the characters that were looked at, as long as all of them are at or above the space
abbrev pub invariant-loop-c : goal.invariant-loop-c
invariant-loop-c l = l.all ≡ true → before l.part ≡ l.c-index + before (drop l.c-index l.part)
