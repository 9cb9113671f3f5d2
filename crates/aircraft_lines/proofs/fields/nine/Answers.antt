-- By the code, the form, and then the types of the nine.
use mathlib.Core.Path.{◌≡◌, ap, ap₂, ◌∙◌}
use native.Mathlib.Omega.{arith}
use borrow.Author.Rules.{rules}
use lib.ListN.{length}
use Rattle.airframe.specs.Given.{given_in}
use Rattle.aircraft_lines.specs.Asked.{line_given}
use Rattle.aircraft_lines.proofs.Said.{chosen_none, chosen_some, nine_none, nine_signed, nine_first, nine_second}
use Rattle.aircraft_lines.proofs.fields.nine.Goals as goal
use Rattle.aircraft_lines.proofs.fields.nine.Goals.{in-144, in-146}

pub returns-in_default : goal.returns-in_default
returns-in_default c =
    let long : length c.args.list ≡ 9 = search rules in
    nine_none c.args.code c.args.list long (λ e. omega (arith, e)) (λ e. omega (arith, e))

pub returns-in_err-sizes : goal.returns-in_err-sizes
returns-in_err-sizes c =
    let long : length c.args.list ≡ 9 = search rules in
    rw c.from_residual.ensures (nine_signed c.args.code c.args.list long (chosen_none _ _ c.in_err-sizes.ensures))

pub returns : goal.returns
returns c =
    let long : length c.args.list ≡ 9 = search rules in
    let p = chosen_some _ _ _ c.in_ok-sizes.ensures in
    let given = c.fields_given.ensures ∙ ap given_in p.1 in
    elim c.match-code.branch [
      | in-144 w ↦ c.send.ensures ∙ ap₂ line_given w.initialises-is given ∙ nine_first c.args.code c.args.list long p.0 w.in-144.is
      | in-146 w ↦ c.send.ensures ∙ ap₂ line_given w.initialises-is given ∙ nine_second c.args.code c.args.list long p.0 w.in-146.is
    ]
