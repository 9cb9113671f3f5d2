-- What was built, as its number.
use borrow.Author.Rules.{rules}
use mathlib.Core.Path.{◌≡◌, ◌∙◌}
use mir.Syntax.{w32}
use mir.Val.{to_z, of_z}
use Rattle.packets.specs.Answers.{command_bytes}
use Rattle.airframe.specs.Building.{command_fits, command_built}
use Rattle.airframe.proofs.Carried.{few_bytes}
use Rattle.tolmezha.specs.Numbers.{command_answered}
use Rattle.tolmezha.proofs.Built.{few_built, as_number}
use Rattle.tolmezha.proofs.building.command.Goals as goal

pub number-requires : goal.number-requires
unfolding command_built
number-requires c =
    let a = c.args in
    let b = c.build in
    few_built (command_fits a.command) (command_bytes a.command) a.room.now b.result _ b.ensures (few_bytes a.command)

pub returns : goal.returns
unfolding command_built command_answered
returns c =
    let a = c.args in
    let b = c.build in
    let back : to_z w32 (of_z w32 c.number.result) ≡ c.number.result = search rules in
    rw (c.requires)
    (as_number (command_fits a.command) (command_bytes a.command) a.room.now b.result _ b.ensures _ (back ∙ c.number.ensures))
