-- The word, the numbers and the ids.
use native.Mathlib.Omega.{arith}
use Rattle.items.proofs.Behind.{both, renamed}
use Rattle.airframe.specs.Reading.{shown_report}
use Rattle.aircraft_answers.proofs.Texts.{status_text}
use Rattle.aircraft_answers.proofs.meanings.put_status.Goals as goal

pub returns : goal.returns
returns c =
    let s = c.args.shown in
    let numbers = rw (c.from.ensures, c.from-2.ensures, c.from-3.ensures, c.from-4.ensures, c.from-5.ensures) at c.put_numerals.ensures in
    renamed _ 280 (status_text (shown_report s c.args.ids.now) s.request) (omega arith) (both c.append.ensures (both numbers c.put_numerals-2.ensures))
