-- What was asked is answered.
use Rattle.std.proofs.Common.{refl}
use Rattle.answers.proofs.OneLine.{one_line}
use Rattle.line_answers.proofs.answering.called.Goals as goal

pub returns : goal.returns
returns c =
    let heard = c.asked-line.ensures in
    record { answered = rw (← heard) c.answer_in.ensures; sizes = rw (← heard) (c.next_sizes-bench.ensures _ _); program = refl; line = one_line _ _ }
