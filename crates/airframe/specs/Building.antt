-- What the aircraft sends: every command and acknowledgement of document 01, from its fields, into a lent room.
-- Assumes nothing.
use Rattle.std.specs.Prelude.{ℕ, ◌^◌, Bool, true, not, ◌&&◌, List, [], ◌∷◌, ltb, leb, length, Result, Ok, Err}
use Rattle.std.proofs.lemmas.List.Edits.{sets}
use Rattle.rows.specs.Rows.{Row, row, Said, refused, gave, Out, out, ran}
use Rattle.packets.specs.declared.Fields.{Fields}
use Rattle.packets.specs.declared.Command.{Command}
use Rattle.packets.specs.declared.Command.TheVariants.{Initialise, Status, Update, Write, Read, Priority, Data, Shutdown}
use Rattle.packets.specs.Commands.{fields_bounded}
use Rattle.packets.specs.Answers.{done_answer, error_answer, command_bytes}
use Rattle.params.specs.Rows.{param_row}
use Rattle.params.specs.Rules.{is_id, in_row}
use Rattle.airframe.specs.declared.Form.{Form}
use Rattle.airframe.specs.declared.Form.TheVariants.{Taken, Failed}
use Rattle.airframe.specs.declared.Refusal.{Refusal}
use Rattle.airframe.specs.declared.Refusal.TheVariants.{Field, Wrong, Room}

-- document 01's bounds of the fields; "upper 22 bits seconds": of a larger number the top would be cut off
unfoldable pub fields_fit : Fields → Bool
fields_fit f = fields_bounded f && ltb f.seconds (2 ^ 22)

-- "a field outside document 01's bounds (.. that 1 stays below 2 only the pod judges)": an id has a row, a value is in its row
unfoldable pub command_fits : Command → Bool
command_fits (Initialise f) = fields_fit f
command_fits Status = true
command_fits (Update f) = fields_fit f
command_fits (Write id v) = is_id id && in_row (param_row id) v
command_fits (Read id) = is_id id
command_fits Priority = true
command_fits Data = true
command_fits Shutdown = true

-- the widths that hold a command's numbers, where no bound above does: flags and the priority limit have 16 bits, the memory limit 32
unfoldable pub fields_wide : Fields → Bool
fields_wide f = ltb f.flags (2 ^ 16) && (ltb f.prioritylimit (2 ^ 16) && ltb f.memorylimit (2 ^ 32))

abbrev pub command_wide : Command → Bool
command_wide (Initialise f) = fields_wide f
command_wide Status = true
command_wide (Update f) = fields_wide f
command_wide (Write id v) = true
command_wide (Read id) = true
command_wide Priority = true
command_wide Data = true
command_wide Shutdown = true

-- "first byte 0x90 to 0x9F"
unfoldable pub first_fits : ℕ → Bool
first_fits first = leb 0x90 first && leb first 0x9F

-- "either second byte 0x01 with third 0x7E, or second byte 0x09", with its error byte: the bytes of the two short answers
unfoldable pub acknowledgement_bytes : ℕ → Form → List ℕ
acknowledgement_bytes first Taken = done_answer first
acknowledgement_bytes first (Failed e) = error_answer first e

-- ---- refusals, "lowest first"

-- 20: "a field outside document 01's bounds"
abbrev pub field_row : Bool → Row
field_row inside = row 20 (not inside)

-- 24: "a command room under 25 bytes"
abbrev pub room_row : List ℕ → Row
room_row room = row 24 (ltb (length room) 25)

-- what is built, of any bytes: said is how many they are; they lie in the room from its start, and the rest of it is kept
unfoldable pub build_of : Bool → List ℕ → List ℕ → Out (Said ℕ) (Unit {0}) (List ℕ)
build_of inside bytes room = ran (field_row inside ∷ room_row room ∷ []) tt room (out (length bytes) tt (sets room 0 bytes))

unfoldable pub command_built : Command → List ℕ → Out (Said ℕ) (Unit {0}) (List ℕ)
command_built c room = build_of (command_fits c) (command_bytes c) room

unfoldable pub acknowledgement_built : ℕ → Form → List ℕ → Out (Said ℕ) (Unit {0}) (List ℕ)
acknowledgement_built first form room = build_of (first_fits first) (acknowledgement_bytes first form) room

-- ---- in document 02's numbers

unfoldable pub refusal_number : Refusal → ℕ
refusal_number Field = 20
refusal_number Wrong = 23
refusal_number Room = 24

-- how many bytes were built, or the number of the refusal
unfoldable pub built_said : Result ℕ Refusal → Said ℕ
built_said (Ok n) = gave n
built_said (Err r) = refused (refusal_number r)
