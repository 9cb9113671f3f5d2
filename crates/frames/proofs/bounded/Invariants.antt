-- The samples passed are within the bound.
use Rattle.std.proofs.Common.{◌≡◌, ◌+◌, ◌*◌, true, take}
use Rattle.frames.specs.Samples.{bounded_of}
use Rattle.frames.proofs.bounded.Given as goal

abbrev pub invariant-passes : goal.invariant-passes
invariant-passes l = record { so_far : bounded_of (take (l.p * 8) l.samples) ≡ true; within : l.within ≡ true }

abbrev pub invariant-loop-c : goal.invariant-loop-c
invariant-loop-c l = record { so_far : bounded_of (take (l.p * 8 + l.c) l.samples) ≡ true; within : l.within ≡ true }
