-- What a command and an acknowledgement do to the pod: checks 7 to 9, and no bytes.
-- Assumes nothing.
use Rattle.std.specs.Prelude.{ℕ, ◌-◌, Bool, true, false, not, ◌&&◌, ◌||◌, cond, List, [], ◌∷◌, eqb, ℤ, Result, Ok, Err}
use Rattle.rows.specs.Rows.{Row, row, Said, refused, gave, Out, out, ran}
use Rattle.blocks.specs.declared.Store.{Store}
use Rattle.blocks.specs.declared.Store.TheVariants.{Priority, Ordinary}
use Rattle.blocks.specs.Stores.{capacity_of, dropped_ring}
use Rattle.packets.specs.declared.Fields.{Fields}
use Rattle.packets.specs.declared.Command.{Command}
use Rattle.packets.specs.declared.Command.TheVariants as command
use Rattle.packets.specs.declared.Report.{Report}
use Rattle.packets.specs.Commands.{fields_bounded, command_row}
use Rattle.params.specs.Rules.{is_id, value_at, write_allowed, stored}
use Rattle.tables.specs.Tables.{starts}
use Rattle.tables.specs.Port.{close_of}
use Rattle.rules.specs.declared.Exchange.{Exchange}
use Rattle.rules.specs.declared.Exchange.TheVariants.{Closed, Status, Read, Receive}
use Rattle.rules.specs.declared.Pod.{Pod}
use Rattle.rules.specs.declared.Reply.{Reply}
use Rattle.rules.specs.declared.Reply.TheVariants.{Success, Report as Reported, Value, Block}
use Rattle.rules.specs.declared.Failure.{Failure}
use Rattle.rules.specs.declared.Failure.TheVariants.{Asleep, Outside, Nothing, Spent}
use Rattle.rules.specs.State.{with_initialised, with_fields, with_params, with_exchange, with_words, with_ring, ring_of, remaining_of, with_remaining, fresh_pod, Lent, with_tables}

-- what a command gives that passes its checks: success of type 1; of type 2 what the body shows
pub data Meant : Type 0 where
  success : Meant
  report : Meant
  -- of a parameter, by its id
  value : ℕ → ℤ → Meant
  -- the oldest of a store
  block : Store → Meant

-- the error number of each check
unfoldable pub failure_number : Failure → ℕ
failure_number Asleep = 0x38
failure_number Outside = 0x39
failure_number Nothing = 0x3A
failure_number Spent = 0x3B

-- what a reply means
abbrev pub meaning : Reply → Meant
meaning Success = success
meaning Reported = report
meaning (Value id v) = value id v
meaning (Block s) = block s

-- a reply in document 01's numbers: a failure is its error number
unfoldable pub reply_said : Result Reply Failure → Said Meant
reply_said (Ok r) = gave (meaning r)
reply_said (Err f) = refused (failure_number f)

-- ---- checks 7 to 9, in their order, each with its error number

-- 7: "Not initialised, and not 0x90: 0x38."
abbrev pub awake_check : Pod → Row
awake_check p = row 0x38 (not p.initialised)

-- 8: "A field outside its bounds: 0x39."
abbrev pub field_check : Bool → Row
field_check inside = row 0x39 (not inside)

-- 9: "Nothing waiting: 0x3A. Then remaining is 0: 0x3B."
abbrev pub receive_checks : Store → Pod → List Row
receive_checks s p = awake_check p ∷ row 0x3A (eqb (ring_of s p).waiting 0) ∷ row 0x3B (eqb (remaining_of s p.fields) 0) ∷ []

unfoldable pub checks_of : Command → Pod → List Row
checks_of (command.Initialise f) p = field_check (fields_bounded f) ∷ []
checks_of command.Status p = awake_check p ∷ []
checks_of (command.Update f) p = awake_check p ∷ field_check (fields_bounded f) ∷ []
checks_of (command.Write id v) p = awake_check p ∷ field_check (write_allowed p.params id v) ∷ []
checks_of (command.Read id) p = awake_check p ∷ field_check (is_id id) ∷ []
checks_of command.Priority p = receive_checks Priority p
checks_of command.Data p = receive_checks Ordinary p
checks_of command.Shutdown p = awake_check p ∷ []

-- ---- what a command does that passes them, an open exchange being closed

-- "Initialise puts everything back as from power .., marks the pod initialised and then takes its fields"
unfoldable pub initialised_pod : Fields → Pod
initialised_pod f = with_fields f (with_initialised true fresh_pod)

-- a block is shown, and kept
abbrev pub received : Store → Lent → Pod → Out Meant Pod Lent
received s l p = out (block s) (with_exchange (Receive s) p) l

-- "A type 2 answer without error opens an exchange."
unfoldable pub done_by : Command → Lent → Pod → Out Meant Pod Lent
done_by (command.Initialise f) l p = out success (initialised_pod f) (with_tables starts l)
done_by command.Status l p = out report (with_exchange Status p) l
-- "Update takes the fields and keeps the rest."
done_by (command.Update f) l p = out success (with_fields f p) l
done_by (command.Write id v) l p = out success (with_params (stored p.params id v) p) l
done_by (command.Read id) l p = out (value id (value_at p.params id)) (with_exchange Read p) l
done_by command.Priority l p = received Priority l p
done_by command.Data l p = received Ordinary l p
-- "Shutdown makes the pod not initialised and closes an open transfer, which sets message error."
done_by command.Shutdown l p = out success (with_initialised false (with_words (close_of p.words) p)) l

-- a command is its checks and what it does
unfoldable pub obey_of : Command → Lent → Pod → Out (Said Meant) Pod Lent
obey_of c l p = ran (checks_of c p) p l (done_by c l p)

-- "Every other non-empty packet closes an open exchange first, keeping the block."
abbrev pub shut : Pod → Pod
shut p = with_exchange Closed p

-- ---- the acknowledgement

-- the command that receives a block of a store
abbrev pub receives : Store → Command
receives Priority = command.Priority
receives Ordinary = command.Data

-- the code of the command whose exchange is open; 0, which is no first byte of an acknowledgement, for none
abbrev pub exchange_code : Exchange → ℕ
exchange_code Closed = 0
exchange_code Status = (command_row command.Status).code
exchange_code Read = (command_row (command.Read 0)).code
exchange_code (Receive s) = (command_row (receives s)).code

-- "it is the 0x01 form and its first byte equals the open exchange's code"; request No. 2: "0x90 closes any open exchange as that
-- exchange's own code would" (with none open, `settled` changes nothing)
unfoldable pub matches : ℕ → Bool → Exchange → Bool
matches first one x = one && (eqb first (exchange_code x) || eqb first 0x90)

-- "the oldest block of that store is dropped and its remaining falls by 1; were the store empty or its remaining 0, neither would change"
unfoldable pub drop_from : Store → Pod → Pod
drop_from s p =
    cond (eqb (ring_of s p).waiting 0 || eqb (remaining_of s p.fields) 0) p
    (with_ring s (dropped_ring (capacity_of s) (ring_of s p)) (with_fields (with_remaining s (remaining_of s p.fields - 1) p.fields) p))

-- ".. and that is 0x95 or 0x96"
unfoldable pub settled : Exchange → Pod → Pod
settled Closed p = p
settled Status p = p
settled Read p = p
settled (Receive s) p = drop_from s p

-- "It gets no answer and closes the exchange."
unfoldable pub acknowledged_of : ℕ → Bool → Pod → Pod
acknowledged_of first one p = shut (cond (matches first one p.exchange) (settled p.exchange p) p)

-- ---- what a status answer shows

-- "mode, flags 2, priority blocks waiting 2, ordinary blocks waiting 4, .. eight ids": request No. 5, the eight places that are kept
unfoldable pub report_of : Pod → Report
report_of p =
    record { mode = p.fields.mode; flags = p.fields.flags; priority = p.priority.waiting; ordinary = p.ordinary.waiting; ids = p.params.missing }
