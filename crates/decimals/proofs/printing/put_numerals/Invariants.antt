-- What is left of the run goes behind what is written. Assumes nothing.
use Rattle.std.proofs.Common.{◌*◌, ◌+◌, map, drop}
use Rattle.items.proofs.Behind.{Left}
use Rattle.decimals.specs.Printing.{spelled}
use Rattle.decimals.proofs.printing.put_numerals.Given as goal

abbrev pub invariant-loop-n : goal.invariant-loop-n
invariant-loop-n g l =
    let d = g.T.Numeral in
    Left (spelled (map d.value l.numbers)) (spelled (map d.value (drop l.n-index l.numbers))) ((d.most + 1) * l.n-index) l.initial.out l.out
