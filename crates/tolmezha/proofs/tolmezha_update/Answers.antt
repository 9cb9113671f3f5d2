-- The fields where all fit, else 20.
use borrow.Author.Rules.{rules}
use mathlib.Core.Path.{◌≡◌, ap, ◌∙◌}
use mir.Syntax.{w32}
use mir.Val.{to_z, of_z}
use lib.IntN.{ℤ}
use Rattle.rows.specs.Rows.{out}
use Rattle.packets.specs.declared.Fields.{Fields}
use Rattle.packets.specs.declared.Command.TheVariants.{Update}
use Rattle.airframe.specs.Given.{fields_nine, command_typed}
use Rattle.airframe.proofs.Typed.{typed_wide}
use Rattle.tolmezha.specs.Numbers.{command_answered}
use Rattle.tolmezha.proofs.Built.{command-outside, given_some, given_none}
use Rattle.tolmezha.proofs.tolmezha_update.Goals as goal

pub returns-in_default : goal.returns-in_default
unfolding command_typed
returns-in_default c = command-outside (Update (fields_nine c.args.fields.now)) c.args.room.now (given_none _ c.in_default.ensures)

pub command-requires : goal.command-requires
unfolding command_typed
command-requires c = typed_wide (Update c.in-Some.fields) (given_some _ _ c.in-Some.ensures).0

pub returns : goal.returns
returns c =
    let r = c.command in
    let back : to_z w32 (of_z w32 r.result) ≡ r.result = search rules in
    ap (λ (z : ℤ). out z tt r.new.room) back ∙ r.ensures
    ∙ ap (λ (f : Fields). command_answered (Update f) c.args.room.now) (given_some _ _ c.in-Some.ensures).1
