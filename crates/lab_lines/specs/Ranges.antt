-- Whether a number is in a range, and how large a thing may be lent.
-- Assumes nothing.
use Rattle.std.specs.Prelude.{ℕ, ◌*◌, Bool, not, ◌&&◌, leb, eqb, cond, Option, Some, None}
use Rattle.blocks.specs.declared.Store.{Store}
use Rattle.blocks.specs.declared.Store.TheVariants.{Priority, Ordinary}
use Rattle.blocks.specs.Stores.{capacity_of}
use Rattle.tables.specs.Tables.{table_size}
use Rattle.lab_sets.specs.declared.Thing.{Thing}
use Rattle.lab_sets.specs.declared.Thing.TheVariants.{Room, Store as store, Table as table}
use Rattle.decimals.specs.declared.Number.{Number}
use Rattle.decimals.specs.Reading.{is_below}

-- 0 to a most
abbrev pub up_to : ℕ → Number → Bool
up_to most n = not (is_below n) && leb n.size most

-- .. and how much it is
abbrev pub within : ℕ → Number → Option ℕ
within most n = cond (up_to most n) (Some n.size) None

abbrev pub minus_one : Number → Bool
minus_one n = n.minus && eqb n.size 1

-- blocks of 256 bytes
abbrev pub store_size : Store → ℕ
store_size Priority = capacity_of Priority * 256
store_size Ordinary = capacity_of Ordinary * 256

-- the answer room and the stores in bytes, the tables in words
abbrev pub right_size : Thing → ℕ
right_size Room = 260
right_size (store s) = store_size s
right_size (table t) = table_size t
