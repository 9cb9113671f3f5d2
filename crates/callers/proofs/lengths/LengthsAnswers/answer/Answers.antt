-- A number of twenty characters at the most, and one more.
use Rattle.items.proofs.Behind.{both}
use Rattle.callers.proofs.lengths.LengthsAnswers.answer.Goals as goal

pub returns-clause-answers : goal.returns-clause-answers
returns-clause-answers c = both c.put_number.ensures c.append.ensures
