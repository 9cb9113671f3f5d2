-- The codes of document 01's packet table, in its order.
-- Assumes nothing.
use Rattle.std.specs.Prelude.{◌≡◌, ℕ, false, Result, MatchResult, get_or}
use Rattle.packets.specs.declared.codes.Code.{Code}
use Rattle.packets.specs.declared.codes.Code.TheVariants.{Initialise, Status, Update, Write, Read, Priority, Data, Shutdown}
use Rattle.packets.specs.declared.codes.UnknownCode.{UnknownCode}
use Rattle.packets.specs.Commands.{command_rows, no_command_row, is_code}

-- a code's place in the packet table
abbrev pub code_place : Code → ℕ
code_place Initialise = 0
code_place Status = 1
code_place Update = 2
code_place Write = 3
code_place Read = 4
code_place Priority = 5
code_place Data = 6
code_place Shutdown = 7

-- a code's byte, as the packet table has it
unfoldable pub code_number : Code → ℕ
code_number c = (get_or command_rows (code_place c) no_command_row).code

-- a byte is read as the code that it is of, and as none where no row has it
abbrev pub CodeRead : ℕ → Result Code UnknownCode → Type 0
CodeRead b r = MatchResult r (λ c. code_number c ≡ b) (λ e. (e.0 ≡ b) × (is_code b ≡ false))
