-- What is built is printed and put on its way, or the command is refused.
use native.Mathlib.Omega.{arith}
use mathlib.Core.Path.{refl, ap}
use Rattle.items.specs.Printed.{bytes_line, refused_line}
use Rattle.items.proofs.Behind.{renamed}
use Rattle.packets.specs.Answers.{command_bytes}
use Rattle.airframe.specs.Building.{command_fits, command_built, refusal_number}
use Rattle.airframe.proofs.Carried.{few_bytes}
use Rattle.aircraft_answers.proofs.Built.{put, not_put}
use Rattle.aircraft_answers.proofs.Lines.{stayed, newly_sent}
use Rattle.aircraft_answers.proofs.answering.send.Goals as goal

pub refused_line-requires : goal.refused_line-requires
unfolding refusal_number
refused_line-requires c = (omega arith, omega (arith, c.from.ensures))

-- no command has more than 25 bytes
pub invariant_of-way : goal.invariant_of-way
unfolding command_built
invariant_of-way c =
    let a = c.args in
    let b = c.build in
    let p = put (command_fits a.command) (command_bytes a.command) _ refl b.result _ b.ensures _ (few_bytes a.command) c.in-Ok.is in
    record { fits = omega (arith, p.count, few_bytes a.command) }

pub returns-in-Ok : goal.returns-in-Ok
unfolding command_built
returns-in-Ok c =
    let a = c.args in
    let b = c.build in
    let p = put (command_fits a.command) (command_bytes a.command) _ refl b.result _ b.ensures _ (few_bytes a.command) c.in-Ok.is in
    let front = c.front.ensures in
    newly_sent a.command _ _ 800 p c.sent.ensures (omega arith) (renamed _ 800 (ap (bytes_line 80) front.result_value) (omega (arith, front.result_in_bounds)) c.bytes_line.ensures)

pub returns-in-Err : goal.returns-in-Err
unfolding command_built refusal_number
returns-in-Err c =
    let a = c.args in
    let b = c.build in
    rw (not_put (command_fits a.command) (command_bytes a.command) _ refl b.result _ b.ensures _ c.in-Err.is)
    (stayed _ a.way.now refl (renamed _ 800 (ap (refused_line 81) c.from.ensures) (omega arith) c.refused_line.ensures))
