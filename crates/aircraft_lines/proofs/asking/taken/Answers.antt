-- One byte.
use Rattle.aircraft_lines.proofs.Texts.{one_none, one_form}
use Rattle.aircraft_lines.proofs.asking.taken.Goals as goal

pub returns-in_err-one_byte : goal.returns-in_err-one_byte
returns-in_err-one_byte c = rw c.from_residual.ensures (one_none c.args.line.now c.requires c.in_err-one_byte.ensures)

pub returns : goal.returns
returns c = one_form c.args.line.now c.requires _ c.in_ok-one_byte.ensures
