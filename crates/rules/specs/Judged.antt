-- Checks 7 to 9 of "Checks in this order", each by its sentence and for every command, apart from the rule's own lists.
-- Assumes nothing.
use Rattle.std.specs.Prelude.{ℕ, Bool, false, not, ◌&&◌, cond, eqb}
use Rattle.blocks.specs.declared.Store.{Store}
use Rattle.blocks.specs.declared.Store.TheVariants as store
use Rattle.packets.specs.declared.Command.{Command}
use Rattle.packets.specs.declared.Command.TheVariants.{Initialise, Status, Update, Write, Read, Priority, Data, Shutdown}
use Rattle.packets.specs.Commands.{fields_bounded, command_row}
use Rattle.params.specs.declared.Params.{Params}
use Rattle.params.specs.Rules.{is_id, write_allowed}
use Rattle.rules.specs.declared.Pod.{Pod}
use Rattle.rules.specs.State.{ring_of, remaining_of}

-- 7: "Not initialised, and not 0x90"
abbrev pub early : Command → Pod → Bool
early c p = not p.initialised && not (eqb (command_row c).code 0x90)

-- 8: "A field outside its bounds": of the fields, of a parameter written, of an id
abbrev pub outside : Command → Params → Bool
outside (Initialise f) q = not (fields_bounded f)
outside Status q = false
outside (Update f) q = not (fields_bounded f)
outside (Write id v) q = not (write_allowed q id v)
outside (Read id) q = not (is_id id)
outside Priority q = false
outside Data q = false
outside Shutdown q = false

-- a test of the store that a command asks a block of
abbrev pub of_asked : (Store → Bool) → Command → Bool
of_asked t (Initialise f) = false
of_asked t Status = false
of_asked t (Update f) = false
of_asked t (Write id v) = false
of_asked t (Read id) = false
of_asked t Priority = t store.Priority
of_asked t Data = t store.Ordinary
of_asked t Shutdown = false

-- 9: "Nothing waiting"
abbrev pub none_waits : Command → Pod → Bool
none_waits c p = of_asked (λ s. eqb (ring_of s p).waiting 0) c

-- "Then remaining is 0"
abbrev pub none_remains : Command → Pod → Bool
none_remains c p = of_asked (λ s. eqb (remaining_of s p.fields) 0) c

-- the error of the first of these checks that fails, 0 for none
unfoldable pub check_of : Command → Pod → ℕ
check_of c p =
    cond (early c p) 0x38
    (cond (outside c p.params) 0x39
    (cond (none_waits c p) 0x3A
    (cond (none_remains c p) 0x3B
    0)))
