-- "Their ranges, whatever the types".
-- Assumes nothing.
use Rattle.std.specs.Prelude.{ℕ, ◌-◌, ◌^◌, Bool, true, leb}
use Rattle.blocks.specs.declared.Store.{Store}
use Rattle.blocks.specs.declared.Store.TheVariants.{Priority, Ordinary}
use Rattle.lab_sets.specs.declared.Field.{Field}
use Rattle.lab_sets.specs.declared.Field.TheVariants.{Mode, Flags, Seconds, Milliseconds, Limit, Remaining, Poll}
use Rattle.lab_sets.specs.declared.Cell.{Cell}
use Rattle.lab_sets.specs.declared.Cell.TheVariants.{Initialised, Field as field, Written, Missing, Error, Place, Oldest, Waiting, Gathered, Timeouts, Out, Outtimeouts}
use Rattle.lab_sets.specs.declared.Change.{Change}
use Rattle.lab_sets.specs.declared.Change.TheVariants.{Cell as cell, Value, Exchange, Address, Transfer, Thing as thing}

-- the most that so many bits say
abbrev pub most : ℕ → ℕ
most bits = 2 ^ bits - 1

-- "`limit0`, `remaining0` .. 16 bits", "`limit1`, `remaining1` 32 bits"
abbrev pub store_most : Store → ℕ
store_most Priority = most 16
store_most Ordinary = most 32

abbrev pub field_most : Field → ℕ
field_most Mode = 255
field_most Flags = most 16
field_most Seconds = most 32
field_most Milliseconds = most 16
field_most (Limit s) = store_most s
field_most (Remaining s) = store_most s
field_most Poll = most 16

-- "`initialised`, `error`, `written` 0 or 1; `mode`, `timeouts`, places, oldest, waiting .. 0 to 255; `gathered` 0 to 8"; of request No. 3's half `out`
-- 0 to 9, `outtimeouts` 0 to 255; of request No. 5's list a place 0 to 255
abbrev pub cell_most : Cell → ℕ
cell_most Initialised = 1
cell_most (field f) = field_most f
cell_most (Written i) = 1
cell_most (Missing k) = 255
cell_most Error = 1
cell_most (Place t) = 255
cell_most (Oldest s) = 255
cell_most (Waiting s) = 255
cell_most Gathered = 8
cell_most Timeouts = 255
cell_most Out = 9
cell_most Outtimeouts = 255

-- whether what a cell becomes is in its range: all else that is asked has a type of its own
unfoldable pub in_range : Change → Bool
in_range (cell c n) = leb n (cell_most c)
in_range (Value id v) = true
in_range (Exchange x) = true
in_range (Address g) = true
in_range (Transfer t) = true
in_range (thing t n) = true
