-- A line that calls nothing changes nothing; any other is its call's, and each part comes back in front of the rest.
use Rattle.std.proofs.Common.{refl, ap}
use Rattle.lines.specs.Asked.{other}
use Rattle.answers.specs.Answers.{said_line}
use Rattle.items.specs.Printed.{bare_line}
use Rattle.line_calls.specs.Calls.{heard_line}
use Rattle.line_calls.specs.Promise.{LentAnswered}
use Rattle.line_calls.specs.Memory.{memory, lent_at}
use Rattle.line_calls.proofs.Parts.{PartsKept, answered_lent, lent_as}
use Rattle.line_calls.proofs.Steps.{by_other}
use Rattle.line_calls.proofs.answering.answer.Goals as goal

pub returns-in_default : goal.returns-in_default
unfolding said_line bare_line
returns-in_default c =
    let a = c.args in
    let m = memory a.room.now a.priority.now a.ordinary.now a.five.now a.six.now a.seven.now a.load.now in
    let none : LentAnswered other a.pod.now a.pod.now a.sizes m m a.out.now c.bare_line.new.self =
    record { answered = by_other a.pod.now (lent_at a.sizes m) _ _ c.bare_line.ensures; rest = refl }
    in
    lent_as (ap (λ l. heard_line l a.bytes.now a.words.now) c.in_default.is) none

pub returns : goal.returns
returns c =
    let a = c.args in
    let n = c.reply.new in
    let m = memory a.room.now a.priority.now a.ordinary.now a.five.now a.six.now a.seven.now a.load.now in
    let parts = memory n.room n.priority n.ordinary n.five n.six n.seven n.load in
    let k = c.reply.auto in
    let kept : PartsKept a.sizes m parts =
    record { room = k.room; priority = k.priority; ordinary = k.ordinary; five = k.five; six = k.six; seven = k.seven }
    in
    lent_as (ap (λ l. heard_line l a.bytes.now a.words.now) c.in-Some.is)
    (answered_lent a.sizes m parts c.requires.sizes_fit kept _ _ _ _ _ c.reply.ensures)
