-- What the packet call's parts ask and promise each other.
-- Assumes nothing.
use Rattle.std.specs.Prelude.{ℕ, ◌<◌, ◌≡◌, true, false, List, [], ◌∷◌, length, ltb, Result, MatchResult}
use Rattle.rows.specs.Rows.{First, Said, gave, Out as Left, out, given, ran}
use Rattle.blocks.specs.declared.Store.{Store}
use Rattle.blocks.specs.declared.Store.TheVariants.{Priority, Ordinary}
use Rattle.blocks.specs.Stores.{store_sized}
use Rattle.packets.specs.Reading.{packet_read}
use Rattle.tables.specs.Tables.{Three}
use Rattle.rules.specs.declared.Pod.{Pod}
use Rattle.rules.specs.declared.Refusal.{Refusal}
use Rattle.rules.specs.State.{Lent, with_stores, with_tables, ring_of}
use Rattle.rules.specs.Refusals.{Giving, bytes, refusal_number, tables_row, state_row}
use Rattle.rules.specs.Obey.{Meant, block}
use Rattle.rules.specs.Calls.{Spoken, Roomed, roomed, answered, packet_heard, packet_rows}
use Rattle.packet_port.specs.declared.port.Stores.{Stores}

-- what is lent, with these stores
abbrev pub lent_by : Stores → Lent → Lent
lent_by s l = with_stores s.priority.now s.ordinary.now l

-- the stores where the room and both of them have their sizes, and else the refusal of a packet, whatever else is lent
abbrev pub LentStores : Result Stores Refusal → List ℕ → List ℕ → List ℕ → Type 0
LentStores r room a o =
    MatchResult r
    (λ s. (ltb (length room) 260 ≡ false) × (store_sized Priority a ≡ true) × (store_sized Ordinary o ≡ true) × (s.priority.now ≡ a) × (s.ordinary.now ≡ o))
    (λ why. (t : Three) (l : Lent) (p : Pod) → First (refusal_number why) (packet_rows (roomed room (with_tables t (with_stores a o l))) p))

-- a block that is shown waits in its store
abbrev pub Waits : Said Meant → Pod → Type 0
Waits m p = (s : Store) → m ≡ gave (block s) → 0 < (ring_of s p).waiting

-- what is spoken is answered by so many bytes, in the room and in what is lent
abbrev pub Answers : ℕ → Pod → List ℕ → Lent → List ℕ → Left Spoken Pod Lent → Type 0
Answers count p after l before o = out (gave (bytes count)) p (roomed after l) ≡ given (answered o before)

-- the packet call where the room and the stores have their sizes: the rows that are left, and its effect
unfoldable pub sized_call : List ℕ → Roomed → Pod → Left (Said Giving) Pod Roomed
sized_call b d p = ran (tables_row d.lent.tables ∷ state_row p ∷ []) p d (answered (packet_heard (packet_read b) d.lent p) d.room)
