-- Refused or not, power on leaves a fresh pod fresh.
use Rattle.std.proofs.Common.{◌≡◌, refl, ap, ◌∙◌}
use Rattle.rows.proofs.Laws.{ran-case}
use Rattle.tables.specs.Tables.{Three}
use Rattle.rules.specs.State.{fresh_pod}
use Rattle.rules.specs.Calls.{power_call, power_rows}
use Rattle.line_loop.proofs.turns.powered.Goals as goal

power-fresh : (t : Three) → (power_call t fresh_pod).pod ≡ fresh_pod
unfolding power_call
power-fresh t = ran-case (λ x. x.pod ≡ fresh_pod) (power_rows t) (λ n f. refl) (λ k. refl)

pub returns : goal.returns
returns c fresh = ap (λ x. x.pod) (rw fresh at c.power_on.ensures) ∙ power-fresh _
