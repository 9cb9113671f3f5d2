-- An id that no byte holds is no parameter's.
use native.Mathlib.Omega.{arith}
use Prim.Native.Nat.{◌^◌}
use mathlib.Core.Path.{◌≡◌}
use mathlib.Core.Bool.{false}
use borrow.Author.Tests.{le-ltb}
use lib.Dec.{ltb}
use Rattle.packets.specs.declared.Command.TheVariants.{Write}
use Rattle.airframe.specs.Given.{command_typed}
use Rattle.tolmezha.proofs.Built.{command-outside}
use Rattle.tolmezha.proofs.tolmezha_parameter_write.Goals as goal

pub returns-in_default : goal.returns-in_default
unfolding command_typed
returns-in_default c =
    let a = c.args in
    let large : ltb a.id (2 ^ 8) ≡ false = le-ltb a.id (2 ^ 8) (omega (arith, c.in_default.ensures)) in
    command-outside (Write a.id a.value) a.room.now (rw large)
