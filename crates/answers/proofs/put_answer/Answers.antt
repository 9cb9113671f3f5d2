-- A line of no bytes.
use Rattle.std.proofs.Common.{arith}
use Rattle.items.proofs.Behind.{longer}
use Rattle.answers.proofs.put_answer.Goals as goal

pub returns : goal.returns
returns c = longer 7 (omega arith) c.put_line.ensures
