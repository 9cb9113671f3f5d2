-- `lab_names::table::table`: both are computed. Assumes nothing.
use Rattle.std.proofs.Common.{refl}
use Rattle.lab_names.specs.Names.{state_names, written_names, missing_names, port_names, value_names, other_names, names}
use Rattle.lab_names.proofs.table.table.Goals as goal

pub returns : goal.returns
unfolding names state_names written_names missing_names port_names value_names other_names
returns c = refl
