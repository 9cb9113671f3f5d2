-- A command from numbers of any size: those that the types of the code do not hold are outside their bounds.
-- Assumes nothing.
use Rattle.std.specs.Prelude.{ℕ, ◌^◌, Bool, true, ◌&&◌, cond, List, ltb, ℤ, pos, neg_ℤ, get_or, Option, Some, None}
use Rattle.std.specs.Int.Signed.{le_z, lt_z}
use Rattle.packets.specs.declared.Fields.{Fields}
use Rattle.packets.specs.declared.Command.{Command}
use Rattle.packets.specs.declared.Command.TheVariants.{Initialise, Status, Update, Write, Read, Priority, Data, Shutdown}

-- "mode flags seconds milliseconds, priority limit and remaining, memory limit and remaining, poll"
abbrev pub fields_nine : List ℕ → Fields
fields_nine n =
    record {
      mode = get_or n 0 0;
      flags = get_or n 1 0;
      seconds = get_or n 2 0;
      milliseconds = get_or n 3 0;
      prioritylimit = get_or n 4 0;
      priorityremaining = get_or n 5 0;
      memorylimit = get_or n 6 0;
      memoryremaining = get_or n 7 0;
      poll = get_or n 8 0;
    }

-- the numbers fit their fields' types
abbrev pub fields_typed : Fields → Bool
fields_typed f =
    ltb f.mode (2 ^ 8)
    && (ltb f.flags (2 ^ 16)
    && (ltb f.seconds (2 ^ 32)
    && (ltb f.milliseconds (2 ^ 16)
    && (ltb f.prioritylimit (2 ^ 16)
    && (ltb f.priorityremaining (2 ^ 16)
    && (ltb f.memorylimit (2 ^ 32)
    && (ltb f.memoryremaining (2 ^ 32)
    && ltb f.poll (2 ^ 16))))))))

abbrev pub value_typed : ℤ → Bool
value_typed v = le_z (neg_ℤ (pos (2 ^ 31))) v && lt_z v (pos (2 ^ 31))

unfoldable pub command_typed : Command → Bool
command_typed (Initialise f) = fields_typed f
command_typed Status = true
command_typed (Update f) = fields_typed f
command_typed (Write id v) = ltb id (2 ^ 8) && value_typed v
command_typed (Read id) = ltb id (2 ^ 8)
command_typed Priority = true
command_typed Data = true
command_typed Shutdown = true

-- the fields that nine numbers are, or that a type of the code does not hold one: then it is outside its bounds
unfoldable pub given_in : List ℕ → Option Fields
given_in n = cond (fields_typed (fields_nine n)) (Some (fields_nine n)) None
