-- Before turn p the sums are those over p passes.
use Rattle.std.proofs.Common.{◌≡◌}
use Rattle.frames.proofs.Sums.{sums_of}
use Rattle.frames.proofs.averages.Given as goal

abbrev pub invariant-loop-p : goal.invariant-loop-p
invariant-loop-p l = l.sums ≡ sums_of l.p l.samples
