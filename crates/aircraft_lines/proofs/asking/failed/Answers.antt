-- Two bytes.
use Rattle.aircraft_lines.proofs.Texts.{first_none, second_none, two_form}
use Rattle.aircraft_lines.proofs.asking.failed.Goals as goal

pub returns-in_err-first : goal.returns-in_err-first
returns-in_err-first c = rw c.from_residual.ensures (first_none c.args.line.now c.requires c.in_err-first.ensures)

pub returns-in_err-error : goal.returns-in_err-error
returns-in_err-error c = rw c.from_residual-in_err-error.ensures (second_none c.args.line.now c.requires _ c.in_ok-first.ensures c.in_err-error.ensures)

pub returns : goal.returns
returns c = two_form c.args.line.now c.requires _ _ c.in_ok-first.ensures c.in_ok-error.ensures
