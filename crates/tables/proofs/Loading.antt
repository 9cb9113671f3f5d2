-- The judgement of a load, over any table.
use mathlib.Core.Path.{◌≡◌}
use mathlib.Core.Bool.{true, false}
use mathlib.Core.List.{List}
use Prim.Native.Nat.{ℕ, ◌+◌, ◌≤◌, ◌<◌}
use borrow.Author.Tests.{leb-true, lt-ltb, le-ltb}
use lib.Dec.{eqb}
use lib.ListN.{get_or, set}
use Rattle.tables.specs.declared.Header.{Header}
use Rattle.tables.specs.declared.Words.{Words}
use Rattle.tables.specs.declared.Transfer.TheVariants.{Idle, Load}
use Rattle.tables.specs.Tables.{table_size, Three, words_of, with_table}
use Rattle.orders.specs.Command.{table_number}
use Rattle.tables.specs.Port.{desk, Tabled, tabled, with_transfer, erred, data_count, word_three, fits, load_right, stored_in, load_judged, load_of}
use Rattle.rows.proofs.Bool.{and_right}

-- a load that is right lies within its table
pub right_within : (h : Header) (l : List ℕ) → load_right h l ≡ true → get_or l 1 0 + data_count h ≤ table_size h.table
unfolding load_right
right_within h l e =
    leb-true _ _
    (and_right (eqb (get_or l 2 0) (word_three h)) (fits h.table (get_or l 1 0) (data_count h)) (and_right (eqb (get_or l 0 0) (table_number h.table)) _ e))

module _ (h : Header) (l : List ℕ) (w : Words) (s : Three) where
  -- a right load is stored
  pub judged_right : load_right h l ≡ true
      → load_judged h l w s ≡ tabled w (desk (with_table h.table (stored_in h l (words_of h.table s)) s) l)
  unfolding load_judged
  judged_right e = rw e

  -- of any other nothing is written, and message error is set
  pub judged_wrong : load_right h l ≡ false → load_judged h l w s ≡ tabled (erred w) (desk s l)
  unfolding load_judged
  judged_wrong e = rw e

module _ (h : Header) (k x : ℕ) (s : Tabled) where
  -- before its last word a load only gathers
  pub load_more : k + 1 < h.n
      → load_of h k x s ≡ tabled (with_transfer (Load h (k + 1)) s.words) (desk s.desk.tables (set s.desk.load k x))
  unfolding load_of
  load_more e = rw (lt-ltb _ _ e)

  -- with its last word it is closed and judged
  pub load_last : h.n ≤ k + 1
      → load_of h k x s ≡ load_judged h (set s.desk.load k x) (with_transfer Idle s.words) s.desk.tables
  unfolding load_of
  load_last e = rw (le-ltb _ _ e)
