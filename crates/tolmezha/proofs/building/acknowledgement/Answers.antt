-- What was built, as its number.
use borrow.Author.Rules.{rules}
use mathlib.Core.Path.{◌≡◌, ◌∙◌}
use mir.Syntax.{w32}
use mir.Val.{to_z, of_z}
use mathlib.Core.Bool.{and-true}
use Rattle.airframe.specs.Building.{first_fits, acknowledgement_bytes, acknowledgement_built}
use Rattle.airframe.proofs.Acknowledged.{five_bytes}
use Rattle.tolmezha.specs.Numbers.{acknowledgement_answered}
use Rattle.tolmezha.proofs.Built.{few_built, as_number}
use Rattle.tolmezha.proofs.building.acknowledgement.Goals as goal

pub number-requires : goal.number-requires
unfolding acknowledgement_built
number-requires c =
    let a = c.args in
    let b = c.acknowledge in
    few_built (first_fits a.first) (acknowledgement_bytes a.first a.form) a.room.now b.result _ b.ensures (five_bytes a.first a.form)

pub returns : goal.returns
unfolding acknowledgement_built acknowledgement_answered
returns c =
    let a = c.args in
    let b = c.acknowledge in
    let back : to_z w32 (of_z w32 c.number.result) ≡ c.number.result = search rules in
    rw (c.requires, and-true (first_fits a.first))
    (as_number (first_fits a.first) (acknowledgement_bytes a.first a.form) a.room.now b.result _ b.ensures _ (back ∙ c.number.ensures))
