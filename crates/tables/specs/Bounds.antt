-- The bounds of the port's state.
use Rattle.std.specs.Prelude.{Bool, true, ◌&&◌, ltb, leb}
use Rattle.orders.specs.declared.Table.TheVariants.{Five, Six, Seven}
use Rattle.tables.specs.declared.Places.{Places}
use Rattle.tables.specs.declared.Words.{Words}
use Rattle.tables.specs.declared.Transfer.{Transfer}
use Rattle.tables.specs.declared.Transfer.TheVariants.{Idle, Address, Load, Read}
use Rattle.tables.specs.Tables.{table_size}
use Rattle.orders.specs.Command.{length_allowed}
use Rattle.tables.specs.Port.{data_count, fits}

-- each read place at most its table's size
unfoldable pub sound_places : Places → Bool
sound_places p = leb p.five (table_size Five) && (leb p.six (table_size Six) && leb p.seven (table_size Seven))

-- an open transfer 0 to N-1 words along, with N as its command allows, and an open read within its table
unfoldable pub sound_transfer : Transfer → Bool
sound_transfer Idle = true
sound_transfer Address = true
sound_transfer (Load h k) = length_allowed h.n && ltb k h.n
sound_transfer (Read h k at) = length_allowed h.n && (ltb k h.n && fits h.table at (data_count h))

-- the state within its bounds; all that is not named here is free
unfoldable pub sound_words : Words → Bool
sound_words w = sound_places w.places && sound_transfer w.transfer
