-- Whatever a text is, no size is over that of the memory.
use Rattle.line_answers.proofs.Sized.{ready_answered}
use Rattle.line_answers.proofs.answering.BenchGathers.answer.Goals as goal

pub returns-clause-fine : goal.returns-clause-fine
returns-clause-fine c = ready_answered c.answered.ensures c.requires.fine
