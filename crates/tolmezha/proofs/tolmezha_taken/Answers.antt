-- A first byte that is none.
use native.Mathlib.Omega.{arith}
use mathlib.Core.Path.{ap}
use mathlib.Core.Bool.{Bool, true, ◌&&◌}
use Rattle.airframe.specs.declared.Form.TheVariants.{Taken}
use Rattle.tolmezha.proofs.Built.{first_large, acknowledgement-outside}
use Rattle.tolmezha.proofs.tolmezha_taken.Goals as goal

pub returns-in_default : goal.returns-in_default
returns-in_default c =
    let a = c.args in
    acknowledgement-outside a.code Taken a.room.now (ap (λ (b : Bool). b && true) (first_large a.code (omega (arith, c.in_default.ensures))))
