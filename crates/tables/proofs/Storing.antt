-- A load that is taken changes exactly the addressed words: over any table, whatever its size.
use mathlib.Core.Path.{◌≡◌, ◌∙◌}
use mathlib.Core.Bool.{true}
use mathlib.Core.List.{List}
use mathlib.Core.Logic.{◌⊎◌, ⊎_elim}
use Prim.Native.Nat.{ℕ, ◌+◌, ◌≤◌, ◌<◌}
use native.Mathlib.Omega.{arith}
use lib.ListN.{length, get_or, take, drop, length-take, length-drop}
use lib.Seq.{length-sets, get_or-take, get_or-drop}
use Rattle.numbers.proofs.Stores.{sets_before, sets_behind, sets_inside}
use Rattle.tables.specs.declared.Header.{Header}
use Rattle.tables.specs.Tables.{table_size}
use Rattle.tables.specs.Port.{data_count, load_right, stored_in}
use Rattle.tables.proofs.Loading.{right_within}

-- a table keeps its size, whatever is stored
pub stored_size : (h : Header) (l table : List ℕ) → length (stored_in h l table) ≡ length table
unfolding stored_in
stored_size h l table = length-sets table (get_or l 1 0) (take (data_count h) (drop 3 l))

module _ (h : Header) (l table : List ℕ) (size : length table ≡ table_size h.table) (right : load_right h l ≡ true) (whole : h.n ≤ length l) where
  data_length : length (take (data_count h) (drop 3 l)) ≡ data_count h
  data_length = simp (length-take, length-drop) (omega arith)

  fits : get_or l 1 0 + length (take (data_count h) (drop 3 l)) ≤ length table
  fits = rw (data_length, size) (right_within h l right)

  -- each data word stands at its address
  pub stored_new : (j : ℕ) → j < data_count h → get_or (stored_in h l table) (get_or l 1 0 + j) 0 ≡ get_or l (3 + j) 0
  unfolding stored_in
  stored_new j near =
      sets_inside (take (data_count h) (drop 3 l)) table (get_or l 1 0) j (rw data_length near) fits
      ∙ get_or-take (data_count h) (drop 3 l) j 0 near ∙ get_or-drop 3 l j 0

  -- every word before the address or behind the last is as it was
  pub stored_old : (i : ℕ) → (i < get_or l 1 0) ⊎ (get_or l 1 0 + data_count h ≤ i) → get_or (stored_in h l table) i 0 ≡ get_or table i 0
  unfolding stored_in
  stored_old i =
      ⊎_elim (λ e. sets_before (take (data_count h) (drop 3 l)) table (get_or l 1 0) i e)
      (λ e. sets_behind (take (data_count h) (drop 3 l)) table (get_or l 1 0) i (rw data_length e))
