-- By the answer.
use Rattle.std.proofs.Common.{rules, arith, ap, ◌≡◌, Ok}
use Rattle.rules.specs.declared.Answer.TheVariants.{Done, Length, Word}
use Rattle.rules.specs.Refusals.{said}
use Rattle.items.specs.Printed.{bytes_line}
use Rattle.items.proofs.Behind.{renamed, longer}
use Rattle.answers.specs.Answers.{said_line}
use Rattle.answers.proofs.put_line.Goals as goal

pub returns-then-lists : goal.returns-then-lists
unfolding said_line said
returns-then-lists c =
    let e : c.args.answer ≡ Ok Done = search rules in
    rw (e, c.if-lists.true) (longer _ (omega arith) c.bytes_line.ensures)

pub returns-else-lists : goal.returns-else-lists
unfolding said_line said
returns-else-lists c =
    let e : c.args.answer ≡ Ok Done = search rules in
    rw (e, c.if-lists.false) (longer _ (omega arith) c.bare_line.ensures)

pub returns-in-Ok-Length : goal.returns-in-Ok-Length
unfolding said_line said
returns-in-Ok-Length c =
    let e : c.args.answer ≡ Ok (Length c.in-Ok-Length.n) = search rules in
    rw e
    (renamed _ _ (ap (bytes_line c.args.letter) c.front.ensures.result_value) (omega (arith, c.front.ensures.result_in_bounds)) c.bytes_line-in-Ok-Length.ensures)

pub returns-in-Ok-Word : goal.returns-in-Ok-Word
unfolding said_line said
returns-in-Ok-Word c =
    let e : c.args.answer ≡ Ok (Word c.in-Ok-Word.word) = search rules in
    rw e (longer _ (omega arith) c.word_line.ensures)

pub returns-in-Err : goal.returns-in-Err
unfolding said_line said
returns-in-Err c = rw c.in-Err.is (longer _ (omega arith) c.put_refused.ensures)
