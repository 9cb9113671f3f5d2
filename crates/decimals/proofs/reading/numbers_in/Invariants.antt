-- The numbers that are left go behind those that are stored. Assumes nothing.
use Rattle.std.proofs.Common.{◌≡◌, ◌==◌, length, map, drop}
use Rattle.std.specs.List.{slice_split}
use Rattle.decimals.specs.Reading.{number_in, numbers_in, numbers_read}
use Rattle.decimals.proofs.Pieces.{stored}
use Rattle.decimals.proofs.reading.numbers_in.Given as goal

abbrev pub invariant-loop-piece : goal.invariant-loop-piece
invariant-loop-piece l =
    record {
      count : l.count ≡ length l.yielded;
      size : length l.list ≡ 9;
      left : stored l.list l.count (map number_in (drop l.count (slice_split (λ c. c == 32) (drop 1 l.text)))) ≡ numbers_read (numbers_in l.text);
    }
