-- What is built is printed, or the acknowledgement is refused.
use native.Mathlib.Omega.{arith}
use mathlib.Core.Path.{refl, ap, ◌∙◌}
use Rattle.items.specs.Printed.{bytes_line, refused_line}
use Rattle.items.proofs.Behind.{renamed}
use Rattle.airframe.specs.Building.{first_fits, acknowledgement_bytes, acknowledgement_built, refusal_number}
use Rattle.airframe.proofs.Acknowledged.{five_bytes}
use Rattle.aircraft_answers.proofs.Built.{put, not_put}
use Rattle.aircraft_answers.proofs.Lines.{first_taken, first_refused}
use Rattle.aircraft_answers.proofs.answering.take.Goals as goal

pub refused_line-requires : goal.refused_line-requires
unfolding refusal_number
refused_line-requires c = (omega arith, omega (arith, c.from.ensures))

pub returns-in-Ok : goal.returns-in-Ok
unfolding acknowledgement_built
returns-in-Ok c w =
    let a = c.args in
    let b = c.acknowledge in
    let front = c.front.ensures in
    let p = put (first_fits a.first) (acknowledgement_bytes a.first a.form) _ refl b.result _ b.ensures _ (five_bytes a.first a.form) c.in-Ok.is in
    rw (first_taken a.first a.form w p.inside)
    (renamed _ 800 (ap (bytes_line 80) (front.result_value ∙ p.taken)) (omega (arith, front.result_in_bounds)) c.bytes_line.ensures)

pub returns-in-Err : goal.returns-in-Err
unfolding acknowledgement_built refusal_number
returns-in-Err c w =
    let a = c.args in
    let b = c.acknowledge in
    let f = not_put (first_fits a.first) (acknowledgement_bytes a.first a.form) _ refl b.result _ b.ensures _ c.in-Err.is in
    rw (first_refused a.first a.form w f) (renamed _ 800 (ap (refused_line 89) c.from.ensures) (omega arith) c.refused_line.ensures)
