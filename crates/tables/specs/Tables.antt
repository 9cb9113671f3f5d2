-- The three tables: numbers, sizes, starts.
use Rattle.std.specs.Prelude.{ℕ, zero, suc, ◌*◌, Bool, ◌&&◌, List, [], ◌∷◌, ◌++◌, eqb, length}
use Rattle.orders.specs.declared.Table.{Table}
use Rattle.orders.specs.declared.Table.TheVariants.{Five, Six, Seven}
use Rattle.tables.specs.declared.Places.{Places}

-- table 5 has 64 words, table 6 has 128, table 7 has 64
abbrev pub table_size : Table → ℕ
table_size Five = 64
table_size Six = 128
table_size Seven = 64

-- tables 5 and 6 all 0; table 7 word i is 256 times i
abbrev pub start_word : Table → ℕ → ℕ
start_word Five i = 0
start_word Six i = 0
start_word Seven i = 256 * i

-- the n words whose word i is f i
unfoldable pub listed : (ℕ → ℕ) → ℕ → List ℕ
listed f zero = []
listed f (suc n) = listed f n ++ (f n ∷ [])

-- a table at its start
unfoldable pub start_table : Table → List ℕ
start_table t = listed (start_word t) (table_size t)

-- the words of the three tables
pub record Three : Type 0 where
  pub five : List ℕ
  pub six : List ℕ
  pub seven : List ℕ

abbrev pub three : List ℕ → List ℕ → List ℕ → Three
three a b c = record { five = a; six = b; seven = c }

-- one table of the three
abbrev pub words_of : Table → Three → List ℕ
words_of Five s = s.five
words_of Six s = s.six
words_of Seven s = s.seven

-- the three with other words in one
abbrev pub with_table : Table → List ℕ → Three → Three
with_table Five l s = three l s.six s.seven
with_table Six l s = three s.five l s.seven
with_table Seven l s = three s.five s.six l

-- each table is its exact size
unfoldable pub tables_sized : Three → Bool
tables_sized s =
    eqb (length s.five) (table_size Five) && (eqb (length s.six) (table_size Six) && eqb (length s.seven) (table_size Seven))

-- all three at their starts
abbrev pub starts : Three
starts = three (start_table Five) (start_table Six) (start_table Seven)

-- the read place of a table
abbrev pub read_place : Table → Places → ℕ
read_place Five p = p.five
read_place Six p = p.six
read_place Seven p = p.seven

-- the places with another for one table
abbrev pub with_read_place : Table → ℕ → Places → Places
with_read_place Five k p = record { five = k; six = p.six; seven = p.seven }
with_read_place Six k p = record { five = p.five; six = k; seven = p.seven }
with_read_place Seven k p = record { five = p.five; six = p.six; seven = k }
