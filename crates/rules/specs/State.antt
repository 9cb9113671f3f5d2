-- The pod's state: as from power, with one part changed, and its bounds; and all that is lent to it.
-- Assumes nothing.
use Rattle.std.specs.Prelude.{ℕ, Bool, true, false, not, ◌&&◌, ◌||◌, List}
use Rattle.blocks.specs.declared.Store.{Store}
use Rattle.blocks.specs.declared.Store.TheVariants.{Priority, Ordinary}
use Rattle.blocks.specs.declared.Ring.{Ring}
use Rattle.blocks.specs.Stores.{capacity_of, sound_ring, empty_ring}
use Rattle.packets.specs.declared.Fields.{Fields}
use Rattle.packets.specs.Commands.{fields_bounded}
use Rattle.params.specs.declared.Params.{Params}
use Rattle.params.specs.Rules.{start_params, sound_params}
use Rattle.tables.specs.declared.Words.{Words}
use Rattle.tables.specs.Tables.{Three}
use Rattle.tables.specs.Port.{Desk, desk, start_words, is_open}
use Rattle.tables.specs.Bounds.{sound_words}
use Rattle.pipe.specs.declared.Pipe.{Pipe}
use Rattle.pipe.specs.Pipe.{fresh_pipe, sound_pipe}
use Rattle.rules.specs.declared.Exchange.{Exchange}
use Rattle.rules.specs.declared.Exchange.TheVariants.{Closed, Status, Read, Receive}
use Rattle.rules.specs.declared.Pod.{Pod}

-- ---- the state with one part changed

abbrev pub with_initialised : Bool → Pod → Pod
with_initialised b p =
    record { initialised = b; fields = p.fields; params = p.params; exchange = p.exchange; words = p.words; priority = p.priority; ordinary = p.ordinary; pipe = p.pipe }

abbrev pub with_fields : Fields → Pod → Pod
with_fields f p =
    record { initialised = p.initialised; fields = f; params = p.params; exchange = p.exchange; words = p.words; priority = p.priority; ordinary = p.ordinary; pipe = p.pipe }

abbrev pub with_params : Params → Pod → Pod
with_params q p =
    record { initialised = p.initialised; fields = p.fields; params = q; exchange = p.exchange; words = p.words; priority = p.priority; ordinary = p.ordinary; pipe = p.pipe }

abbrev pub with_exchange : Exchange → Pod → Pod
with_exchange x p =
    record { initialised = p.initialised; fields = p.fields; params = p.params; exchange = x; words = p.words; priority = p.priority; ordinary = p.ordinary; pipe = p.pipe }

abbrev pub with_words : Words → Pod → Pod
with_words w p =
    record { initialised = p.initialised; fields = p.fields; params = p.params; exchange = p.exchange; words = w; priority = p.priority; ordinary = p.ordinary; pipe = p.pipe }

-- of two things, that of a store
abbrev pub of_store : {A : Type 0} → Store → A → A → A
of_store Priority a b = a
of_store Ordinary a b = b

abbrev pub with_ring : Store → Ring → Pod → Pod
with_ring s r p =
    record { initialised = p.initialised; fields = p.fields; params = p.params; exchange = p.exchange; words = p.words; priority = of_store s r p.priority; ordinary = of_store s p.ordinary r; pipe = p.pipe }

abbrev pub with_pipe : Pipe → Pod → Pod
with_pipe i p =
    record { initialised = p.initialised; fields = p.fields; params = p.params; exchange = p.exchange; words = p.words; priority = p.priority; ordinary = p.ordinary; pipe = i }

-- the blocks of a store: "place of the oldest block", and how many wait
abbrev pub ring_of : Store → Pod → Ring
ring_of s p = of_store s p.priority p.ordinary

-- "its remaining": priority remaining of the priority store, memory remaining of the ordinary one
abbrev pub remaining_of : Store → Fields → ℕ
remaining_of s f = of_store s f.priorityremaining f.memoryremaining

abbrev pub with_remaining : Store → ℕ → Fields → Fields
with_remaining s n f =
    record { mode = f.mode; flags = f.flags; seconds = f.seconds; milliseconds = f.milliseconds; prioritylimit = f.prioritylimit; priorityremaining = of_store s n f.priorityremaining; memorylimit = f.memorylimit; memoryremaining = of_store s f.memoryremaining n; poll = f.poll }

-- ---- as from power

-- "mode 0, flags 0, poll 1,000, time, limits and remainings 0"
unfoldable pub fresh_fields : Fields
fresh_fields =
    record { mode = 0; flags = 0; seconds = 0; milliseconds = 0; prioritylimit = 0; priorityremaining = 0; memorylimit = 0; memoryremaining = 0; poll = 1000 }

-- "Fresh from power: not initialised, .. stores empty, parameters and tables at their starts"
unfoldable pub fresh_pod : Pod
fresh_pod =
    record { initialised = false; fields = fresh_fields; params = start_params; exchange = Closed; words = start_words; priority = empty_ring; ordinary = empty_ring; pipe = fresh_pipe }

-- ---- the bounds

abbrev pub is_closed : Exchange → Bool
is_closed Closed = true
is_closed Status = false
is_closed Read = false
is_closed (Receive s) = false

-- "While not initialised, no exchange and no transfer is open."
unfoldable pub restful : Pod → Bool
restful p = p.initialised || (is_closed p.exchange && not (is_open p.words.transfer))

-- "Bounds of the state", each crate's own (of the pipe request No. 3's two among them, of the parameters request No. 5's) and that last sentence
unfoldable pub sound_pod : Pod → Bool
sound_pod p =
    sound_ring (capacity_of Priority) p.priority
    && (sound_ring (capacity_of Ordinary) p.ordinary
    && (sound_params p.params
    && (fields_bounded p.fields
    && (sound_pipe p.pipe
    && (sound_words p.words
    && restful p)))))

-- ---- what is lent

-- the two stores, the three tables and the words of an open load, each of any size and with anything in it
pub record Lent : Type 0 where
  pub priority : List ℕ
  pub ordinary : List ℕ
  pub tables : Three
  pub load : List ℕ

abbrev pub store_in : Store → Lent → List ℕ
store_in s l = of_store s l.priority l.ordinary

abbrev pub with_store : Store → List ℕ → Lent → Lent
with_store s x l = record { priority = of_store s x l.priority; ordinary = of_store s l.ordinary x; tables = l.tables; load = l.load }

abbrev pub with_stores : List ℕ → List ℕ → Lent → Lent
with_stores p o l = with_store Priority p (with_store Ordinary o l)

abbrev pub with_tables : Three → Lent → Lent
with_tables t l = record { priority = l.priority; ordinary = l.ordinary; tables = t; load = l.load }

-- what the table words are lent of it
abbrev pub desk_in : Lent → Desk
desk_in l = desk l.tables l.load

abbrev pub with_desk : Desk → Lent → Lent
with_desk d l = record { priority = l.priority; ordinary = l.ordinary; tables = d.tables; load = d.load }
