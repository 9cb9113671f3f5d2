-- By the result.
use Rattle.std.proofs.Common.{arith}
use Rattle.rules.specs.Refusals.{said}
use Rattle.items.proofs.Behind.{longer}
use Rattle.answers.specs.Answers.{said_line}
use Rattle.answers.proofs.put_word.Goals as goal

pub returns-in-Ok : goal.returns-in-Ok
unfolding said_line said
returns-in-Ok c = rw c.in-Ok.is (c.word_line.ensures)

pub returns-in-Err : goal.returns-in-Err
unfolding said_line said
returns-in-Err c = rw c.in-Err.is (longer 7 (omega arith) c.put_refused.ensures)
