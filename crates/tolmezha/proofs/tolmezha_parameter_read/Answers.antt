-- An id that no byte holds is no parameter's.
use native.Mathlib.Omega.{arith}
use Prim.Native.Nat.{◌^◌}
use borrow.Author.Tests.{le-ltb}
use Rattle.packets.specs.declared.Command.TheVariants.{Read}
use Rattle.airframe.specs.Given.{command_typed}
use Rattle.tolmezha.proofs.Built.{command-outside}
use Rattle.tolmezha.proofs.tolmezha_parameter_read.Goals as goal

pub returns-in_default : goal.returns-in_default
unfolding command_typed
returns-in_default c = command-outside (Read c.args.id) c.args.room.now (le-ltb c.args.id (2 ^ 8) (omega (arith, c.in_default.ensures)))
