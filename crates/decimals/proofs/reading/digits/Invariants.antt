-- What is left of the digits is still to be read behind the number so far. Assumes nothing.
use Rattle.std.proofs.Common.{◌≡◌, ◌≤◌, ◌<◌, ◌^◌, length, drop}
use Rattle.decimals.specs.Reading.{digits_from, digits_in}
use Rattle.decimals.proofs.reading.digits.Given as goal

abbrev pub invariant-loop-c : goal.invariant-loop-c
invariant-loop-c l =
    record {
      few : length l.text ≤ 10;
      small : l.n < 10 ^ l.c-index;
      left : digits_from l.n (drop l.c-index l.text) ≡ digits_in l.text;
    }
