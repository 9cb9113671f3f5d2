-- The commands as document 01's packet table has them, and what a packet is taken as, in its numbers.
-- Assumes nothing.
use Rattle.std.specs.Prelude.{ℕ, ◌+◌, ◌*◌, ◌/◌, ◌%◌, List, [], ◌∷◌, ◌++◌, map, Bool, false, cond, ◌&&◌, ◌||◌, leb, eqb, ℤ, pos, get_or}
use Rattle.packets.specs.declared.Fields.{Fields}
use Rattle.packets.specs.declared.Command.{Command}
use Rattle.packets.specs.declared.Command.TheVariants.{Initialise, Status, Update, Write, Read, Priority, Data, Shutdown}
use Rattle.packets.specs.declared.Parsed.{Parsed}
use Rattle.packets.specs.declared.Parsed.TheVariants.{Nothing, Error, Acknowledgement, Asked}
use Rattle.numbers.specs.Numbers.{number_at, signed_of}
use Rattle.numbers.specs.Layout.{Part, part, bytes_of, numbers_at}

-- 0x90 and 0x92 carry from byte 2: mode 1, flags 2, time 4 (upper 22 bits seconds, lower 10 milliseconds), priority limit 2,
-- priority remaining 2, memory limit 4, memory remaining 4, poll 2
abbrev pub field_parts : List (Part Fields)
field_parts =
    part (λ f. f.mode) 1
    ∷ part (λ f. f.flags) 2
    ∷ part (λ f. f.seconds * 1024 + f.milliseconds) 4
    ∷ part (λ f. f.prioritylimit) 2
    ∷ part (λ f. f.priorityremaining) 2
    ∷ part (λ f. f.memorylimit) 4
    ∷ part (λ f. f.memoryremaining) 4
    ∷ part (λ f. f.poll) 2
    ∷ []

-- the fields that have these numbers, in the table's order
unfoldable pub fields_of : List ℕ → Fields
fields_of n =
    record {
      mode = get_or n 0 0;
      flags = get_or n 1 0;
      seconds = get_or n 2 0 / 1024;
      milliseconds = get_or n 2 0 % 1024;
      prioritylimit = get_or n 3 0;
      priorityremaining = get_or n 4 0;
      memorylimit = get_or n 5 0;
      memoryremaining = get_or n 6 0;
      poll = get_or n 7 0;
    }

-- the fields that a packet carries
unfoldable pub fields_in : List ℕ → Fields
fields_in packet = fields_of (numbers_at field_parts packet 2)

-- mode 0 to 3; milliseconds 0 to 999; each remaining at most its limit; poll 1 to 60,000; flags and seconds are free
unfoldable pub fields_bounded : Fields → Bool
fields_bounded f =
    leb f.mode 3 && leb f.milliseconds 999
    && leb f.priorityremaining f.prioritylimit
    && leb f.memoryremaining f.memorylimit
    && leb 1 f.poll && leb f.poll 60000

-- a row of the packet table: the code, the command that a packet of that code holds, its type, its bytes and its answer's
pub record CommandRow : Type 0 where
  pub code : ℕ
  pub command : List ℕ → Command
  pub kind : ℕ
  pub bytes : ℕ
  pub answer : ℕ

-- a row from its columns
abbrev pub command_line : ℕ → (List ℕ → Command) → ℕ → ℕ → ℕ → CommandRow
command_line k c t b a = record { code = k; command = c; kind = t; bytes = b; answer = a }

-- the packet table; what a packet carries stands between its first two bytes and its CRC
abbrev pub command_rows : List CommandRow
command_rows =
    command_line 0x90 (λ p. Initialise (fields_in p)) 1 (4 + bytes_of field_parts) 5
    ∷ command_line 0x91 (λ p. Status) 2 4 22
    ∷ command_line 0x92 (λ p. Update (fields_in p)) 1 (4 + bytes_of field_parts) 5
    ∷ command_line 0x93 (λ p. Write (get_or p 2 0) (signed_of 4 (number_at p 3 4))) 1 9 5
    ∷ command_line 0x94 (λ p. Read (get_or p 2 0)) 2 5 9
    ∷ command_line 0x95 (λ p. Priority) 2 4 260
    ∷ command_line 0x96 (λ p. Data) 2 4 260
    ∷ command_line 0x9F (λ p. Shutdown) 1 4 5
    ∷ []

-- what stands for a row where there is none: 0 bytes, which no command has
abbrev pub no_command_row : CommandRow
no_command_row = command_line 0 (λ p. Shutdown) 0 0 0

-- the first row that has a code
unfoldable pub find_in : List CommandRow → ℕ → CommandRow
find_in [] k = no_command_row
find_in (r ∷ rs) k = cond (eqb k r.code) r (find_in rs k)

-- a code that some row has
unfoldable pub listed_in : List CommandRow → ℕ → Bool
listed_in [] k = false
listed_in (r ∷ rs) k = eqb k r.code || listed_in rs k

-- the row of the packet table that has a code
unfoldable pub code_row : ℕ → CommandRow
code_row k = find_in command_rows k

-- a code of the packet table
unfoldable pub is_code : ℕ → Bool
is_code k = listed_in command_rows k

-- a command's place in the packet table
unfoldable pub command_place : Command → ℕ
command_place (Initialise f) = 0
command_place Status = 1
command_place (Update f) = 2
command_place (Write id v) = 3
command_place (Read id) = 4
command_place Priority = 5
command_place Data = 6
command_place Shutdown = 7

-- a command's code, type, bytes and answer's bytes, as the packet table has them
unfoldable pub command_row : Command → CommandRow
command_row c = get_or command_rows (command_place c) no_command_row

-- the fields in their order in the packet
unfoldable pub field_values : Fields → List ℕ
field_values f =
    f.mode ∷ f.flags ∷ f.seconds ∷ f.milliseconds
    ∷ f.prioritylimit ∷ f.priorityremaining ∷ f.memorylimit ∷ f.memoryremaining ∷ f.poll ∷ []

-- the values that a command carries
unfoldable pub values_of : Command → List ℤ
values_of (Initialise f) = map pos (field_values f)
values_of Status = []
values_of (Update f) = map pos (field_values f)
values_of (Write id v) = pos id ∷ v ∷ []
values_of (Read id) = pos id ∷ []
values_of Priority = []
values_of Data = []
values_of Shutdown = []

-- what a packet is taken as, in document 01's numbers: the bytes of the answer that it gets or asks for, its first and second
-- byte (of an error those of its answer), and then the error's number or the command's values
unfoldable pub parsed_said : Parsed → List ℤ
parsed_said Nothing = map pos (0 ∷ [])
parsed_said (Error first number) = map pos (5 ∷ first ∷ 0x09 ∷ number ∷ [])
parsed_said (Acknowledgement first one) = map pos (0 ∷ first ∷ cond one 0x01 0x09 ∷ [])
parsed_said (Asked c) = map pos ((command_row c).answer ∷ (command_row c).code ∷ 0x01 ∷ []) ++ values_of c
