-- What the state keeps that no answer shows whole: each part of it is that of the history, and what an acknowledgement leaves.
-- Assumes nothing.
use Rattle.std.specs.Prelude.{ℕ, ◌≡◌, Bool, true, false, ◌||◌, List, [], ◌∷◌, eqb}
use Rattle.blocks.specs.declared.Store.{Store}
use Rattle.packets.specs.declared.Fields.{Fields}
use Rattle.packets.specs.declared.Parsed.TheVariants.{Acknowledgement}
use Rattle.packets.specs.Reading.{packet_read}
use Rattle.params.specs.Rows.{param_row}
use Rattle.params.specs.Rules.{is_id, value_at, marked}
use Rattle.rules.specs.declared.Exchange.TheVariants.{Closed}
use Rattle.rules.specs.State.{Lent, ring_of, remaining_of}
use Rattle.rules.specs.World.{World, Call, packet, is_answered, next, final, powered}
use Rattle.rules.specs.History.{events, fold, exchange_by, fresh_fielded, fielded_by, value_by, mark_by}
use Rattle.rules.specs.Replies.{awake_from}
use Rattle.rules.specs.Demands.{just_powered}

-- "Initialise .. marks the pod initialised"; "Shutdown makes the pod not initialised"
abbrev pub AwakeIsHistory : Type 0
AwakeIsHistory = (l : Lent) (cs : List Call) → (final (powered l) cs).pod.initialised ≡ awake_from (events (powered l) cs)

-- "takes its fields", all nine: of the last Initialise or Update, each remaining less the blocks of its store acknowledged since
abbrev pub FieldsAreHistory : Type 0
FieldsAreHistory =
    (l : Lent) (cs : List Call) → (final (powered l) cs).pod.fields ≡ (fold fielded_by fresh_fielded (events (powered l) cs)).fields

-- "A type 2 answer without error opens an exchange", and what closes it
abbrev pub ExchangeIsHistory : Type 0
ExchangeIsHistory = (l : Lent) (cs : List Call) → (final (powered l) cs).pod.exchange ≡ fold exchange_by Closed (events (powered l) cs)

-- each parameter is what was last written since Initialise, else its start, while not initialised too
abbrev pub ParamsAreHistory : Type 0
ParamsAreHistory =
    (l : Lent) (cs : List Call) (id : ℕ) → is_id id ≡ true
    → value_at (final (powered l) cs).pod.params id ≡ fold (value_by id) (param_row id).start (events (powered l) cs)

-- and is marked exactly where it was written since
abbrev pub MarksAreHistory : Type 0
MarksAreHistory =
    (l : Lent) (cs : List Call) (id : ℕ) → is_id id ≡ true
    → marked (final (powered l) cs).pod.params id ≡ fold (mark_by id) false (events (powered l) cs)

-- "were the store empty or its remaining 0, neither would change", of any world
abbrev pub DropGuarded : Type 0
DropGuarded =
    (s : Store) (w : World) (b room : List ℕ) (first : ℕ) (one : Bool) → packet_read b ≡ Acknowledgement first one
    → is_answered w (packet b room) ≡ true → (eqb (ring_of s w.pod).waiting 0 || eqb (remaining_of s w.pod.fields) 0) ≡ true
    → (ring_of s (next w (packet b room)).pod ≡ ring_of s w.pod)
    × (remaining_of s (next w (packet b room)).pod.fields ≡ remaining_of s w.pod.fields)

-- the nine fields in their order
abbrev pub fields_listed : Fields → List ℕ
fields_listed f =
    f.mode ∷ f.flags ∷ f.seconds ∷ f.milliseconds ∷ f.prioritylimit ∷ f.priorityremaining ∷ f.memorylimit ∷ f.memoryremaining ∷ f.poll ∷ []

-- "mode 0, flags 0, poll 1,000, time, limits and remainings 0"
abbrev pub FreshIs : Type 0
FreshIs = fields_listed just_powered.pod.fields ≡ 0 ∷ 0 ∷ 0 ∷ 0 ∷ 0 ∷ 0 ∷ 0 ∷ 0 ∷ 1000 ∷ []
