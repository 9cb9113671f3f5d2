-- What is on its way, or that nothing is.
use native.Mathlib.Omega.{arith}
use mathlib.Core.Path.{refl, ap}
use lib.ListN.{length, length-take}
use Rattle.items.specs.Printed.{bytes_line}
use Rattle.items.proofs.Behind.{renamed}
use Rattle.aircraft_answers.specs.Promise.{way_in}
use Rattle.aircraft_answers.proofs.Lines.{over_again, sent-again}
use Rattle.aircraft_answers.proofs.answering.again.Goals as goal

pub returns-in-Over : goal.returns-in-Over
returns-in-Over c = rw (over_again (way_in c.args.way.now) c.in-Over.is) (renamed _ 800 refl (omega arith) c.append.ensures)

pub returns-in-Awaiting : goal.returns-in-Awaiting
returns-in-Awaiting c =
    let way = c.args.way.now in
    let front = c.front.ensures.result_value in
    rw (sent-again (way_in way) _ _ c.in-Awaiting.is)
    (renamed _ 800 (ap (bytes_line 80) front) (omega (arith, ap length front, length-take way.count way.room, c.args.way.now.fits)) c.bytes_line.ensures)
