-- Before turn c the channels below c have the pass added.
use Rattle.std.proofs.Common.{◌≡◌, ◌+◌}
use Rattle.frames.proofs.Mixed.{mixed}
use Rattle.frames.proofs.Sums.{sums_of}
use Rattle.frames.proofs.add_pass.Given as goal

abbrev pub invariant-loop-c : goal.invariant-loop-c
invariant-loop-c l = l.out ≡ mixed (sums_of (l.p + 1) l.samples) (sums_of l.p l.samples) l.c
