-- The commands that their bytes can carry.
use Prim.Native.Nat.{◌^◌, ◌<◌}
use mathlib.Core.Path.{◌≡◌}
use lib.Signed.{mag}
use Rattle.numbers.proofs.ReadBack.{Fits}
use Rattle.packets.specs.Commands.{field_parts}
use Rattle.packets.specs.declared.Fields.{Fields}
use Rattle.packets.specs.declared.Command.{Command}
use Rattle.packets.specs.declared.Command.TheVariants.{Initialise, Status, Update, Write, Read, Priority, Data, Shutdown}

-- fields that fit their bytes, the milliseconds their ten bits
pub record FieldsFit (f : Fields) : Type 0 where
  pub each : Fits field_parts f
  pub milliseconds : f.milliseconds < 2 ^ 10

-- a command that its bytes can carry; a Read of id 0x7E has the bytes of an acknowledgement, and is taken as one
abbrev pub Sendable : Command → Type 0
Sendable (Initialise f) = FieldsFit f
Sendable Status = Unit {0}
Sendable (Update f) = FieldsFit f
Sendable (Write id v) = mag v < 2 ^ 31
Sendable (Read id) = id ≡ 0x7E → ⊥
Sendable Priority = Unit {0}
Sendable Data = Unit {0}
Sendable Shutdown = Unit {0}
