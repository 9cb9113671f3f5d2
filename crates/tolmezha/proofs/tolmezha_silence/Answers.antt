-- What was on its way, what came of it, and what is on its way then.
use borrow.Author.Rules.{rules}
use mathlib.Core.Path.{◌≡◌, ◌∙◌}
use mathlib.Core.List.{[]}
use mir.Syntax.{w32}
use mir.Val.{to_z, of_z}
use Rattle.airframe.specs.Sending.{silence}
use Rattle.tolmezha.proofs.Stepped.{stepped}
use Rattle.tolmezha.proofs.tolmezha_silence.Goals as goal

pub returns : goal.returns
returns c =
    let b = c.sending_in-before in
    let back : to_z w32 (of_z w32 c.step_of.result) ≡ c.step_of.result = search rules in
    stepped silence [] _ _ b.result b.ensures c.silence-heard.result (c.silence-heard.ensures []) _ (back ∙ c.step_of.ensures) c.leave.ensures
