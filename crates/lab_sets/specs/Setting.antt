-- "X name number ..": a part of the state set, whatever bound it then breaks.
-- Assumes nothing.
use Rattle.std.specs.Prelude.{ℕ, ◌-◌, Bool, true, false, cond, List, [], ◌∷◌, eqb, ltb, ℤ, get_or, set, replicate, Option, Some, None}
use Rattle.blocks.specs.declared.Ring.{Ring}
use Rattle.packets.specs.declared.Fields.{Fields}
use Rattle.params.specs.declared.Params.{Params}
use Rattle.params.specs.Rules.{is_id}
use Rattle.pipe.specs.declared.Pipe.{Pipe}
use Rattle.tables.specs.Tables.{with_read_place}
use Rattle.tables.specs.Port.{with_error, with_transfer, with_places, with_given}
use Rattle.rules.specs.declared.Pod.{Pod}
use Rattle.rules.specs.State.{with_initialised, with_fields, with_params, with_exchange, with_words, with_ring, with_pipe, of_store, ring_of}
use Rattle.lab_sets.specs.declared.Field.{Field}
use Rattle.lab_sets.specs.declared.Field.TheVariants.{Mode, Flags, Seconds, Milliseconds, Limit, Remaining, Poll}
use Rattle.lab_sets.specs.declared.Cell.{Cell}
use Rattle.lab_sets.specs.declared.Cell.TheVariants.{Initialised, Field as field, Written, Missing, Error, Place, Oldest, Waiting, Gathered, Timeouts, Out, Outtimeouts}
use Rattle.lab_sets.specs.declared.Change.{Change}
use Rattle.lab_sets.specs.declared.Change.TheVariants.{Cell as cell, Value, Exchange, Address, Transfer, Thing as thing}

-- the fields in their order, and the place of each
abbrev pub field_numbers : Fields → List ℕ
field_numbers f =
    f.mode ∷ f.flags ∷ f.seconds ∷ f.milliseconds ∷ f.prioritylimit ∷ f.priorityremaining ∷ f.memorylimit ∷ f.memoryremaining ∷ f.poll ∷ []

abbrev pub fields_of : List ℕ → Fields
fields_of l =
    record { mode = get_or l 0 0; flags = get_or l 1 0; seconds = get_or l 2 0; milliseconds = get_or l 3 0; prioritylimit = get_or l 4 0; priorityremaining = get_or l 5 0; memorylimit = get_or l 6 0; memoryremaining = get_or l 7 0; poll = get_or l 8 0 }

abbrev pub field_place : Field → ℕ
field_place Mode = 0
field_place Flags = 1
field_place Seconds = 2
field_place Milliseconds = 3
field_place (Limit s) = of_store s 4 6
field_place (Remaining s) = of_store s 5 7
field_place Poll = 8

abbrev pub field_set : Field → ℕ → Fields → Fields
field_set x n f = fields_of (set (field_numbers f) (field_place x) n)

-- a parameter's value and its mark, each alone: the kept list stays, though it may then be wrong
unfoldable pub value_set : ℕ → ℤ → Params → Params
value_set id v q = cond (is_id id) (record { values = set q.values (id - 1) v; written = q.written; missing = q.missing }) q

unfoldable pub mark_set : ℕ → Bool → Params → Params
mark_set id b q = cond (is_id id) (record { values = q.values; written = set q.written (id - 1) b; missing = q.missing }) q

-- of request No. 5: a place of the kept list, from 0 on
unfoldable pub missing_set : ℕ → ℕ → Params → Params
missing_set k n q = cond (ltb k 8) (record { values = q.values; written = q.written; missing = set q.missing k n }) q

-- "`gathered` n, n bytes of 0"
abbrev pub gathering : ℕ → Pipe → Pipe
gathering n i = record { input = record { bytes = replicate 8 0; gathered = n; timeouts = i.input.timeouts }; output = i.output }

abbrev pub counting : ℕ → Pipe → Pipe
counting n i = record { input = record { bytes = i.input.bytes; gathered = i.input.gathered; timeouts = n }; output = i.output }

-- of request No. 3's half: `out` n, n bytes of 0 in hand
abbrev pub holds_out : ℕ → Pipe → Pipe
holds_out n i = record { input = i.input; output = record { bytes = replicate 8 0; hand = n; timeouts = i.output.timeouts } }

abbrev pub counts_out : ℕ → Pipe → Pipe
counts_out n i = record { input = i.input; output = record { bytes = i.output.bytes; hand = i.output.hand; timeouts = n } }

abbrev pub ring : ℕ → ℕ → Ring
ring oldest waiting = record { oldest = oldest; waiting = waiting }

unfoldable pub cell_set : Cell → ℕ → Pod → Pod
cell_set Initialised n p = with_initialised (eqb n 1) p
cell_set (field x) n p = with_fields (field_set x n p.fields) p
cell_set (Written id) n p = with_params (mark_set id (eqb n 1) p.params) p
cell_set (Missing k) n p = with_params (missing_set k n p.params) p
cell_set Error n p = with_words (with_error (eqb n 1) p.words) p
cell_set (Place t) n p = with_words (with_places (with_read_place t n p.words.places) p.words) p
cell_set (Oldest s) n p = with_ring s (ring n (ring_of s p).waiting) p
cell_set (Waiting s) n p = with_ring s (ring (ring_of s p).oldest n) p
cell_set Gathered n p = with_pipe (gathering n p.pipe) p
cell_set Timeouts n p = with_pipe (counting n p.pipe) p
cell_set Out n p = with_pipe (holds_out n p.pipe) p
cell_set Outtimeouts n p = with_pipe (counts_out n p.pipe) p

-- what a line of X sets; a line of L sets nothing
unfoldable pub part_set : Change → Pod → Pod
part_set (cell c n) p = cell_set c n p
part_set (Value id v) p = with_params (value_set id v p.params) p
part_set (Exchange x) p = with_exchange x p
part_set (Address g) p = with_words (with_given g p.words) p
part_set (Transfer t) p = with_words (with_transfer t p.words) p
part_set (thing t n) p = p

-- "a load's words so far are 0"
unfoldable pub load_set : Change → List ℕ → List ℕ
load_set (cell c n) l = l
load_set (Value id v) l = l
load_set (Exchange x) l = l
load_set (Address g) l = l
load_set (Transfer t) l = replicate 64 0
load_set (thing t n) l = l

-- whether a part of the state is asked for; a line that asks for nothing is none
abbrev pub is_part : Option Change → Bool
is_part None = false
is_part (Some (cell c n)) = true
is_part (Some (Value id v)) = true
is_part (Some (Exchange x)) = true
is_part (Some (Address g)) = true
is_part (Some (Transfer t)) = true
is_part (Some (thing t n)) = false

-- the pod and the words of a load after a line, as they were where it asks for nothing
abbrev pub part_after : Option Change → Pod → Pod
part_after None p = p
part_after (Some c) p = part_set c p

abbrev pub load_after : Option Change → List ℕ → List ℕ
load_after None l = l
load_after (Some c) l = load_set c l
