-- The number of the refusal.
use Rattle.std.proofs.Common.{arith}
use Rattle.answers.proofs.Texts.{number-small}
use Rattle.answers.proofs.put_refused.Goals as goal

pub refused_line-requires : goal.refused_line-requires
refused_line-requires c = (omega arith, rw c.from.ensures (number-small c.args.why))

pub returns : goal.returns
returns c = rw c.from.ensures at c.refused_line.ensures
