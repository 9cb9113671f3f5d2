-- What is left of the number stands in front of the digits that are stored. Assumes nothing.
use Rattle.std.proofs.Common.{◌≡◌, ◌≤◌, ◌<◌, ◌+◌, ◌^◌, ◌++◌, length, drop}
use Rattle.items.specs.Printed.{digits_of, decimal}
use Rattle.decimals.proofs.printing.put_digits.Given as goal

abbrev pub invariant-loop-rest : goal.invariant-loop-rest
invariant-loop-rest l =
    record {
      place : l.i ≤ 19;
      small : l.rest < 10 ^ (l.i + 1);
      size : length l.text ≡ 20;
      digits : digits_of (l.i + 1) l.rest ++ drop (l.i + 1) l.text ≡ decimal l.n;
    }

abbrev pub decreases-loop-rest : goal.decreases-loop-rest
decreases-loop-rest l = l.rest
