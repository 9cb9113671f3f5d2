-- The bytes of each answer, and those of each command.
-- Assumes nothing.
use Rattle.std.specs.Prelude.{ℕ, ◌≡◌, List, [], ◌∷◌, ◌++◌, ℤ, length}
use Rattle.std.proofs.lemmas.List.Edits.{sets}
use Rattle.crc.specs.Crc.{crc_of}
use Rattle.packets.specs.declared.Fields.{Fields}
use Rattle.packets.specs.declared.Command.{Command}
use Rattle.packets.specs.declared.Command.TheVariants.{Initialise, Status, Update, Write, Read, Priority, Data, Shutdown}
use Rattle.packets.specs.declared.Report.{Report}
use Rattle.numbers.specs.Numbers.{high_first, unsigned_of}
use Rattle.numbers.specs.Layout.{laid_out}
use Rattle.packets.specs.Commands.{field_parts, command_row}

-- bytes with their CRC behind them, sent high byte first
unfoldable pub with_crc : List ℕ → List ℕ
with_crc bytes = bytes ++ high_first 2 (crc_of bytes)

-- every answer: first byte, second byte, body, CRC of all that
unfoldable pub answer_of : ℕ → ℕ → List ℕ → List ℕ
answer_of first second body = with_crc (first ∷ second ∷ body)

-- an answer is written from the start of the answer room, the rest of the room is kept, and the writer says how many bytes it has
pub record Written (answer before after : List ℕ) (n : ℕ) : Type 0 where
  pub room : after ≡ sets before 0 answer
  pub count : n ≡ length answer

-- an error answer: the packet's first byte, 0x09, the error, CRC
unfoldable pub error_answer : ℕ → ℕ → List ℕ
error_answer first number = answer_of first 0x09 (number ∷ [])

-- success of a type 1 command: first byte, 0x01, 0x7E, CRC
unfoldable pub done_answer : ℕ → List ℕ
done_answer first = answer_of first 0x01 (0x7E ∷ [])

-- status, bytes 2 to 19: mode, flags 2, priority blocks waiting 2, ordinary blocks waiting 4, request 0, eight ids
unfoldable pub status_body : Report → List ℕ
status_body r =
    r.mode ∷ high_first 2 r.flags ++ high_first 2 r.priority ++ high_first 4 r.ordinary ++ 0 ∷ r.ids

-- success of a type 2 command: first byte, 0x01, the body, CRC; here with the body of a status
unfoldable pub status_answer : ℕ → Report → List ℕ
status_answer first r = answer_of first 0x01 (status_body r)

-- a parameter's id and its 4-byte signed value, as 0x93 carries them and as 0x94 is answered
unfoldable pub value_body : ℕ → ℤ → List ℕ
value_body id v = id ∷ high_first 4 (unsigned_of 4 v)

-- success of a parameter read: first byte, 0x01, id, value, CRC
unfoldable pub value_answer : ℕ → ℕ → ℤ → List ℕ
value_answer first id v = answer_of first 0x01 (value_body id v)

-- success of a data command: first byte, 0x01, the block, CRC
unfoldable pub data_answer : ℕ → List ℕ → List ℕ
data_answer first block = answer_of first 0x01 block

-- the fields from byte 2 on, as Initialise and Update carry them
unfoldable pub field_bytes : Fields → List ℕ
field_bytes f = laid_out field_parts f

-- what a command carries after its code and 0x01
unfoldable pub body_of : Command → List ℕ
body_of (Initialise f) = field_bytes f
body_of Status = []
body_of (Update f) = field_bytes f
body_of (Write id v) = value_body id v
body_of (Read id) = id ∷ []
body_of Priority = []
body_of Data = []
body_of Shutdown = []

-- a command's packet: its code, 0x01, its fields, CRC
unfoldable pub command_bytes : Command → List ℕ
command_bytes c = answer_of (command_row c).code 0x01 (body_of c)
