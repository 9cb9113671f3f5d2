-- Each line by its own function.
use native.Mathlib.Omega.{arith}
use mathlib.Core.Path.{refl, ap, ◌∙◌}
use Rattle.std.specs.Prelude.{Some}
use Rattle.items.specs.Printed.{refused_line}
use Rattle.items.proofs.Behind.{renamed}
use Rattle.airframe.specs.Building.{refusal_number}
use Rattle.aircraft_answers.specs.Spoken.{spoken_of}
use Rattle.aircraft_answers.specs.Promise.{way_in}
use Rattle.aircraft_answers.proofs.Lines.{stayed, take_stays}
use Rattle.aircraft_answers.proofs.Asking.{line_spoken, as_asked}
use Rattle.aircraft_answers.proofs.answering.answer.Goals as goal

pub refused_line-requires : goal.refused_line-requires
unfolding refusal_number
refused_line-requires c = (omega arith, omega (arith, c.from.ensures))

pub returns-in-Some-Send : goal.returns-in-Some-Send
unfolding line_spoken
returns-in-Some-Send c = as_asked _ _ _ _ _ _ (rw (c.in-Some-Send.is ∙ ap Some (rw c.in-Some-Send.is at c.in-Some-Send.field-0-is)) c.send.ensures)

pub returns-in-Some-Outside : goal.returns-in-Some-Outside
unfolding line_spoken refusal_number
returns-in-Some-Outside c =
    as_asked _ _ _ _ _ _
    (rw (c.in-Some-Outside.is ∙ ap Some (rw c.in-Some-Outside.is at c.in-Some-Outside.field-0-is))
    (stayed _ c.args.way.now refl (renamed _ 800 (ap (refused_line 81) c.from.ensures) (omega arith) c.refused_line.ensures)))

pub returns-in-Some-Take : goal.returns-in-Some-Take
unfolding line_spoken
returns-in-Some-Take c =
    let i = c.in-Some-Take in
    as_asked _ _ _ _ _ _
    (rw (i.is ∙ ap Some (rw i.is at i.field-0-is)) (stayed _ c.args.way.now (take_stays i.first i.form (way_in c.args.way.now)) (c.take.ensures (way_in c.args.way.now))))

pub returns-in-Some-Hear : goal.returns-in-Some-Hear
unfolding line_spoken spoken_of
returns-in-Some-Hear c =
    let i = c.in-Some-Hear in
    as_asked _ _ _ _ _ _ (rw (i.is ∙ ap Some (rw i.is at i.field-0-is), ← c.front-heard.ensures.result_value, ← c.reply.ensures) c.tell.ensures)

pub returns-in-Some-Wait : goal.returns-in-Some-Wait
unfolding line_spoken spoken_of
returns-in-Some-Wait c =
    let i = c.in-Some-Wait in
    as_asked _ _ _ _ _ _ (rw (i.is ∙ ap Some (rw i.is at i.field-0-is), ← c.silence.ensures c.args.bytes.now) c.tell-in-Some-Wait.ensures)

pub returns-in-Some-Again : goal.returns-in-Some-Again
unfolding line_spoken spoken_of
returns-in-Some-Again c =
    let i = c.in-Some-Again in
    as_asked _ _ _ _ _ _ (rw (i.is ∙ ap Some (rw i.is at i.field-0-is)) (stayed _ c.args.way.now refl c.again.ensures))

pub returns-in-None : goal.returns-in-None
unfolding line_spoken spoken_of
returns-in-None c =
    as_asked _ _ _ _ _ _ (rw c.in-None.is (stayed _ c.args.way.now refl (renamed _ 800 refl (omega arith) c.bare_line.ensures)))
