-- The start tables have their sizes.
use mathlib.Core.Path.{◌≡◌}
use mathlib.Core.Bool.{true}
use lib.ListN.{length}
use Rattle.orders.specs.declared.Table.{Table}
use Rattle.orders.specs.declared.Table.TheVariants.{Five, Six, Seven}
use Rattle.tables.specs.Tables.{table_size, tables_sized, start_word, start_table, starts}
use Rattle.tables.proofs.Lists.{length_listed}

start_length : (t : Table) → length (start_table t) ≡ table_size t
unfolding start_table
start_length t = length_listed (start_word t) (table_size t)

pub starts_sized : tables_sized starts ≡ true
unfolding tables_sized
starts_sized = rw (start_length Five, start_length Six, start_length Seven)
