-- What a list of calls and answers alone says of the pod: nothing here looks at its state.
-- Assumes nothing.
use Rattle.std.specs.Prelude.{ℕ, ◌-◌, Bool, true, false, ◌&&◌, ◌||◌, cond, List, [], ◌∷◌, ◌++◌, ltb, eqb, ℤ, drop, get_or}
use Rattle.std.proofs.Math.Option.{Option, none, some}
use Rattle.rows.specs.Rows.{Said, refused, gave}
use Rattle.blocks.specs.declared.Store.{Store}
use Rattle.blocks.specs.declared.Store.TheVariants.{Priority, Ordinary}
use Rattle.packets.specs.declared.Fields.{Fields}
use Rattle.packets.specs.declared.Command.{Command}
use Rattle.packets.specs.declared.Command.TheVariants as command
use Rattle.packets.specs.declared.Parsed.{Parsed}
use Rattle.packets.specs.declared.Parsed.TheVariants.{Nothing, Error, Acknowledgement, Asked}
use Rattle.packets.specs.Reading.{packet_read}
use Rattle.params.specs.Rows.{param_row}
use Rattle.rules.specs.declared.Exchange.{Exchange}
use Rattle.rules.specs.declared.Exchange.TheVariants.{Closed, Status, Read, Receive}
use Rattle.rules.specs.State.{of_store, fresh_fields}
use Rattle.rules.specs.Refusals.{Giving, done, bytes, reads}
use Rattle.rules.specs.Families.{WordCall, PipeCall, LoneCall, deadline, pipe}
use Rattle.rules.specs.World.{World, Call, power, packet, put, word, lone, samples, Told, step, next}

-- ---- a call with what it told, read as what happened

-- of a call that is lent nothing to change: whether it closes an open exchange, and which pipe call it is, if any
pub record Touch : Type 0 where
  pub closes : Bool
  pub moves : Option PipeCall

abbrev pub lone_as : LoneCall → Touch
lone_as deadline = record { closes = true; moves = none }
lone_as (pipe c) = record { closes = false; moves = some c }

pub data Event : Type 0 where
  -- refused, or of no concern below
  nothing : Event
  -- all is as from power; awake, if by Initialise; with these fields
  begins : Bool → Fields → Event
  sleeps : Event
  updates : Fields → Event
  writes_parameter : ℕ → ℤ → Event
  -- a type 2 command answered without error
  opens_exchange : Exchange → Event
  -- a packet answered with an error
  closes_exchange : Event
  -- an acknowledgement: its first byte, and whether it is the 0x01 form
  hears_acknowledgement : ℕ → Bool → Event
  puts : Store → List ℕ → Event
  words : WordCall → Event
  -- a call that is lent nothing to change, and the bytes that it gave
  touches : Touch → List ℕ → Event

-- a command answered without error
abbrev pub obeyed_as : Command → Event
obeyed_as (command.Initialise f) = begins true f
obeyed_as command.Status = opens_exchange Status
obeyed_as (command.Update f) = updates f
obeyed_as (command.Write id v) = writes_parameter id v
obeyed_as (command.Read id) = opens_exchange Read
obeyed_as command.Priority = opens_exchange (Receive Priority)
obeyed_as command.Data = opens_exchange (Receive Ordinary)
obeyed_as command.Shutdown = sleeps

-- a packet as it is read; a Bool says whether it was answered without error
abbrev pub packet_as : Parsed → Bool → Event
packet_as Nothing ok = nothing
packet_as (Error first n) ok = closes_exchange
packet_as (Acknowledgement first one) ok = hears_acknowledgement first one
packet_as (Asked c) ok = cond ok (obeyed_as c) closes_exchange

-- a packet was answered, and the second byte of its answer is k
abbrev pub second_is : ℕ → Said Giving → List ℕ → Bool
second_is k (refused n) room = false
second_is k (gave done) room = false
second_is k (gave (bytes n)) room = ltb 0 n && eqb (get_or room 1 0) k
second_is k (gave (reads x)) room = false

-- it was answered without error: "first byte, 0x01"
unfoldable pub succeeded : Told → Bool
succeeded t = second_is 0x01 t.said t.bytes

-- "An error answer has 5 bytes: the packet's first byte, 0x09, the error, CRC"
unfoldable pub errored : Told → Bool
errored t = second_is 0x09 t.said t.bytes

abbrev pub given_as : Call → Told → Event
given_as power t = begins false fresh_fields
given_as (packet b room) t = packet_as (packet_read b) (succeeded t)
given_as (put s b) t = puts s b
given_as (word c) t = words c
given_as (lone c) t = touches (lone_as c) t.bytes
given_as (samples k xs) t = nothing

abbrev pub said_as : Said Giving → Call → Told → Event
said_as (refused n) c t = nothing
said_as (gave g) c t = given_as c t

unfoldable pub event_of : Call → Told → Event
event_of c t = said_as t.said c t

unfoldable pub events : World → List Call → List Event
events w [] = []
events w (c ∷ cs) = event_of c (step w c).told ∷ events (next w c) cs

-- every function of a history is a fold
unfoldable pub fold : {A : Type 0} → (Event → A → A) → A → List Event → A
fold f a [] = a
fold f a (e ∷ es) = fold f (f e a) es

-- ---- awake: from Initialise to Shutdown

unfoldable pub awake_by : Event → Bool → Bool
awake_by nothing b = b
awake_by (begins a f) b = a
awake_by sleeps b = false
awake_by (updates f) b = b
awake_by (writes_parameter id v) b = b
awake_by (opens_exchange x) b = b
awake_by closes_exchange b = b
awake_by (hears_acknowledgement first one) b = b
awake_by (puts s q) b = b
awake_by (words c) b = b
awake_by (touches t l) b = b

-- ---- the exchange that is open: "A type 2 answer without error opens an exchange"; "Every other non-empty packet closes an open
-- exchange first"; "So does the deadline call"

unfoldable pub exchange_by : Event → Exchange → Exchange
exchange_by nothing x = x
exchange_by (begins a f) x = Closed
exchange_by sleeps x = Closed
exchange_by (updates f) x = Closed
exchange_by (writes_parameter id v) x = Closed
exchange_by (opens_exchange y) x = y
exchange_by closes_exchange x = Closed
exchange_by (hears_acknowledgement first one) x = Closed
exchange_by (puts s b) x = x
exchange_by (words c) x = x
exchange_by (touches t l) x = cond t.closes Closed x

abbrev pub same_store : Store → Store → Bool
same_store Priority Priority = true
same_store Priority Ordinary = false
same_store Ordinary Priority = false
same_store Ordinary Ordinary = true

-- an exchange of a block of that store
abbrev pub is_receive : Store → Exchange → Bool
is_receive s Closed = false
is_receive s Status = false
is_receive s Read = false
is_receive s (Receive r) = same_store s r

-- with that exchange open, a block of the store is acknowledged: the 0x01 form, marked as its receive was, 0x95 or 0x96, or, by
-- request No. 2, 0x90
unfoldable pub acknowledged : Store → ℕ → Bool → Exchange → Bool
acknowledged s first one x = is_receive s x && (one && (eqb first (of_store s 0x95 0x96) || eqb first 0x90))

-- ---- the blocks that wait: "put adds a block behind the others"; acknowledged, "the oldest block of that store is dropped"

pub record Waiting : Type 0 where
  pub exchange : Exchange
  pub blocks : List (List ℕ)

abbrev pub nothing_waits : Waiting
nothing_waits = record { exchange = Closed; blocks = [] }

unfoldable pub blocks_by : Store → Event → Exchange → List (List ℕ) → List (List ℕ)
blocks_by s nothing x q = q
blocks_by s (begins a f) x q = []
blocks_by s sleeps x q = q
blocks_by s (updates f) x q = q
blocks_by s (writes_parameter id v) x q = q
blocks_by s (opens_exchange y) x q = q
blocks_by s closes_exchange x q = q
blocks_by s (hears_acknowledgement first one) x q = cond (acknowledged s first one x) (drop 1 q) q
blocks_by s (puts r b) x q = cond (same_store s r) (q ++ (b ∷ [])) q
blocks_by s (words c) x q = q
blocks_by s (touches t l) x q = q

abbrev pub waiting_by : Store → Event → Waiting → Waiting
waiting_by s e x = record { exchange = exchange_by e x.exchange; blocks = blocks_by s e x.exchange x.blocks }

-- ---- the fields: of the last Initialise or Update, each remaining less the blocks of its store acknowledged since

pub record Fielded : Type 0 where
  pub exchange : Exchange
  pub fields : Fields

abbrev pub fresh_fielded : Fielded
fresh_fielded = record { exchange = Closed; fields = fresh_fields }

-- "the oldest block of that store is dropped and its remaining falls by 1", and no other field changes
abbrev pub less_by : (Store → Bool) → Fields → Fields
less_by by f =
    record { mode = f.mode; flags = f.flags; seconds = f.seconds; milliseconds = f.milliseconds; prioritylimit = f.prioritylimit; priorityremaining = cond (by Priority) (f.priorityremaining - 1) f.priorityremaining; memorylimit = f.memorylimit; memoryremaining = cond (by Ordinary) (f.memoryremaining - 1) f.memoryremaining; poll = f.poll }

unfoldable pub fields_by : Event → Exchange → Fields → Fields
fields_by nothing x f = f
fields_by (begins a g) x f = g
fields_by sleeps x f = f
fields_by (updates g) x f = g
fields_by (writes_parameter id v) x f = f
fields_by (opens_exchange y) x f = f
fields_by closes_exchange x f = f
fields_by (hears_acknowledgement first one) x f = less_by (λ (s : Store). acknowledged s first one x) f
fields_by (puts s b) x f = f
fields_by (words c) x f = f
fields_by (touches t l) x f = f

abbrev pub fielded_by : Event → Fielded → Fielded
fielded_by e x = record { exchange = exchange_by e x.exchange; fields = fields_by e x.exchange x.fields }

-- ---- a parameter: what was last written since Initialise, else its start; and whether it was written since

unfoldable pub value_by : ℕ → Event → ℤ → ℤ
value_by id nothing v = v
value_by id (begins a f) v = (param_row id).start
value_by id sleeps v = v
value_by id (updates f) v = v
value_by id (writes_parameter k u) v = cond (eqb k id) u v
value_by id (opens_exchange x) v = v
value_by id closes_exchange v = v
value_by id (hears_acknowledgement first one) v = v
value_by id (puts s b) v = v
value_by id (words c) v = v
value_by id (touches t l) v = v

unfoldable pub mark_by : ℕ → Event → Bool → Bool
mark_by id nothing m = m
mark_by id (begins a f) m = false
mark_by id sleeps m = m
mark_by id (updates f) m = m
mark_by id (writes_parameter k u) m = eqb k id || m
mark_by id (opens_exchange x) m = m
mark_by id closes_exchange m = m
mark_by id (hears_acknowledgement first one) m = m
mark_by id (puts s b) m = m
mark_by id (words c) m = m
mark_by id (touches t l) m = m
