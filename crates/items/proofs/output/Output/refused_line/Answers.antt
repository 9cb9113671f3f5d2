-- The characters appended are those of the definition.
use Rattle.std.proofs.Common.{refl, arith}
use Rattle.items.proofs.Spelled.{one_digit, two_digits}
use Rattle.items.proofs.Behind.{renamed}
use Rattle.items.proofs.output.Output.refused_line.Goals as goal

pub returns-then-number-lt10 : goal.returns-then-number-lt10
returns-then-number-lt10 c = rw (one_digit c.args.letter c.args.number (omega arith)) (renamed _ 6 refl (omega arith) c.append.ensures)

pub returns : goal.returns
returns c = rw (two_digits c.args.letter c.args.number (omega arith) (omega arith)) c.append-2.ensures
