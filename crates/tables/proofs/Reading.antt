-- The words of a read.
use mathlib.Core.Path.{◌≡◌, refl, ap, ◌∙◌}
use mathlib.Core.List.{List, ◌∷◌}
use Prim.Native.Nat.{ℕ, suc, ◌+◌, ◌-◌, ◌≤◌}
use native.Mathlib.Omega.{arith}
use lib.Dec.{lit≤}
use lib.ListN.{get_or, drop}
use lib.Seq.{get_or-drop}
use Rattle.orders.specs.declared.Table.{Table}
use Rattle.orders.specs.declared.Table.TheVariants.{Five, Six, Seven}
use Rattle.tables.specs.declared.Header.{Header}
use Rattle.tables.specs.Tables.{table_size}
use Rattle.orders.specs.Command.{table_number}
use Rattle.tables.specs.Port.{word_three, read_word}

-- the words of a read: its table's number, its start, the count of data words, and then the table from the start on
module _ (h : Header) (at : ℕ) (table : List ℕ) where
  pub read_first : read_word h at table 0 ≡ table_number h.table
  unfolding read_word
  read_first = refl

  pub read-second : read_word h at table 1 ≡ at
  unfolding read_word
  read-second = refl

  pub read-third : read_word h at table 2 ≡ word_three h
  unfolding read_word
  read-third = refl

  pub read_data : (k : ℕ) → 3 ≤ k → read_word h at table k ≡ get_or table (at + (k - 3)) 0
  unfolding read_word
  read_data k far =
      let more : k ≡ suc (suc (suc (k - 3))) = omega arith in
      ap (λ (j : ℕ). get_or (table_number h.table ∷ at ∷ word_three h ∷ drop at table) j 0) more ∙ get_or-drop at table (k - 3) 0

-- no table is larger than 128 words
pub size_most : (t : Table) → table_size t ≤ 128
size_most Five = lit≤ tt
size_most Six = lit≤ tt
size_most Seven = lit≤ tt
