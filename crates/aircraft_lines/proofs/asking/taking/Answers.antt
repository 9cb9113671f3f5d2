-- Neither one byte nor two.
use native.Mathlib.Omega.{arith}
use Rattle.aircraft_lines.proofs.Texts.{none_form}
use Rattle.aircraft_lines.proofs.asking.taking.Goals as goal

pub returns : goal.returns
returns c = none_form c.args.line.now c.if-line-eq4.false (λ z. omega (arith, z))
