-- The memory of a program, which it lends to the calls.
-- Assumes nothing.
use Rattle.std.specs.Prelude.{ℕ, ◌*◌, ◌≤◌, List, [], length, take, drop}
use Rattle.blocks.specs.declared.Store.TheVariants.{Priority, Ordinary}
use Rattle.blocks.specs.Stores.{capacity_of}
use Rattle.orders.specs.declared.Table.TheVariants.{Five, Six, Seven}
use Rattle.tables.specs.Tables.{three, table_size}
use Rattle.rules.specs.State.{Lent}
use Rattle.line_calls.specs.declared.Memory.{Memory}
use Rattle.line_calls.specs.declared.Sizes.{Sizes}

-- the answer room, and all else that is lent
abbrev pub memory : List ℕ → List ℕ → List ℕ → List ℕ → List ℕ → List ℕ → List ℕ → Memory
memory room p o five six seven load =
    record { room = room; priority = p; ordinary = o; five = five; six = six; seven = seven; load = load }

abbrev pub lent_in : Memory → Lent
lent_in m = record { priority = m.priority; ordinary = m.ordinary; tables = three m.five m.six m.seven; load = m.load }

-- each thing is lent at a size: so much of it from its start. The words of a load are always lent whole
abbrev pub lent_at : Sizes → Memory → Memory
lent_at s m =
    memory (take s.room m.room) (take s.priority m.priority) (take s.ordinary m.ordinary) (take s.five m.five)
    (take s.six m.six) (take s.seven m.seven) m.load

-- "a lent store or table is not its exact size", "answer room under 260 bytes": the sizes that are never refused
abbrev pub right_sizes : Sizes
right_sizes =
    record { room = 260; priority = capacity_of Priority * 256; ordinary = capacity_of Ordinary * 256; five = table_size Five; six = table_size Six; seven = table_size Seven }

-- what lies behind it
abbrev pub behind : Sizes → Memory → Memory
behind s m =
    memory (drop s.room m.room) (drop s.priority m.priority) (drop s.ordinary m.ordinary) (drop s.five m.five)
    (drop s.six m.six) (drop s.seven m.seven) []

-- no size is over that of the thing
pub record SizesFit (s : Sizes) (m : Memory) : Type 0 where
  pub room : s.room ≤ length m.room
  pub priority : s.priority ≤ length m.priority
  pub ordinary : s.ordinary ≤ length m.ordinary
  pub five : s.five ≤ length m.five
  pub six : s.six ≤ length m.six
  pub seven : s.seven ≤ length m.seven

-- no size is over that of a program's memory
pub record Within (s : Sizes) : Type 0 where
  pub room : s.room ≤ 1284
  pub priority : s.priority ≤ 5120
  pub ordinary : s.ordinary ≤ 33792
  pub five : s.five ≤ 1088
  pub six : s.six ≤ 1152
  pub seven : s.seven ≤ 1088
