-- The tables as they are lent.
use Rattle.std.specs.Prelude.{◌≡◌}
use Rattle.tables.specs.declared.Tables.{Tables}
use Rattle.tables.specs.Tables.{Three, three}

-- the words that they hold
abbrev pub held : Tables → Three
held t = three t.five.now t.six.now t.seven.now

-- the same three tables, whatever they hold
pub record SameTables (a b : Tables) : Type 0 where
  pub five : b.five.ghost_name ≡ a.five.ghost_name
  pub six : b.six.ghost_name ≡ a.six.ghost_name
  pub seven : b.seven.ghost_name ≡ a.seven.ghost_name
