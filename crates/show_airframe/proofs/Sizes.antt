-- Each answer has at least five bytes, and at most 260.
use Prim.Native.Nat.{◌≤◌}
use native.Mathlib.Omega.{arith}
use Rattle.packets.specs.declared.codes.Code.{Code}
use Rattle.packets.specs.declared.codes.Code.TheVariants.{Initialise, Status, Update, Write, Read, Priority, Data, Shutdown}
use Rattle.packets.specs.Commands.{code_row, find_in}
use Rattle.packets.specs.Codes.{code_number}

pub enough : (c : Code) → (5 ≤ (code_row (code_number c)).answer) × ((code_row (code_number c)).answer ≤ 260)
unfolding code_number code_row find_in
enough Initialise = (omega arith, omega arith)
enough Status = (omega arith, omega arith)
enough Update = (omega arith, omega arith)
enough Write = (omega arith, omega arith)
enough Read = (omega arith, omega arith)
enough Priority = (omega arith, omega arith)
enough Data = (omega arith, omega arith)
enough Shutdown = (omega arith, omega arith)
