-- Parameters within their bounds: at the starts, and after a write; and what the bounds say of the kept list.
-- Assumes nothing.
use Prim.{tt}
use Rattle.std.specs.Prelude.{Option, IfSome}
use Rattle.rows.proofs.Bool.{by-test}
use Prim.Native.Nat.{ℕ, zero, suc, ◌-◌}
use mathlib.Core.Path.{◌≡◌, refl, sym, ap, ◌∙◌}
use mathlib.Core.Bool.{true, ◌&&◌, false≢true}
use mathlib.Core.List.{List, [], ◌∷◌}
use borrow.Author.Tests.{eqb-true, eq-eqb}
use lib.Dec.{eqb}
use lib.IntN.{ℤ}
use lib.ListN.{length, get_or, set, length-set}
use Rattle.rows.proofs.Bool.{and_left, and_right, and_both}
use Rattle.rows.specs.Same.{same_list}
use Rattle.rows.proofs.Same.{same_once, same_self}
use Rattle.params.specs.declared.ParamRow.{ParamRow}
use Rattle.params.specs.declared.Params.{Params}
use Rattle.params.specs.Rows.{param_rows, no_param_row, param_row}
use Rattle.params.specs.Rules.{in_row, in_span, in_rows, filter, missing_ids, missing_of, list_kept, sound_params, start_params, stored, struck, write_allowed, write_of}
use Rattle.params.proofs.Laws.{id_taken, taken_id}
use Rattle.params.proofs.Missing.{missing_long, struck-out}

-- ---- the three bounds

module _ (p : Params) (h : sound_params p ≡ true) where
  pub in_rows_lem : in_rows param_rows p.values ≡ true
  unfolding sound_params
  in_rows_lem = and_left (in_rows param_rows p.values) _ h

  pub in_span_lem : in_span p ≡ true
  unfolding sound_params
  in_span_lem = and_left (in_span p) (list_kept p) (and_right (in_rows param_rows p.values) _ h)

  kept : list_kept p ≡ true
  unfolding sound_params
  kept = and_right (in_span p) (list_kept p) (and_right (in_rows param_rows p.values) _ h)

  -- there is a mark for each id
  twelve_marks : length p.written ≡ 12
  unfolding list_kept
  twelve_marks = eqb-true (length p.written) 12 (and_left (eqb (length p.written) 12) _ kept)

  -- the kept list is the one that the marks decide
  pub kept_list : p.missing ≡ missing_of p
  unfolding list_kept
  kept_list = same_once p.missing (missing_of p) (and_right (eqb (length p.written) 12) _ kept)

  -- so it has eight places
  pub kept-length : length p.missing ≡ 8
  kept-length = ap length kept_list ∙ missing_long p

-- ---- starts

pub start_sound : sound_params start_params ≡ true
unfolding sound_params in_rows start_params list_kept same_list missing_of missing_ids filter
start_sound = refl

-- ---- writes

-- a store of a value that is in its row leaves each in its row
rows_kept : (rs : List ParamRow) (vs : List ℤ) (k : ℕ) (v : ℤ) → in_row (get_or rs k no_param_row) v ≡ true → in_rows rs vs ≡ true → in_rows rs (set vs k v) ≡ true
unfolding in_rows
rows_kept [] [] k v f h = refl
rows_kept [] (x ∷ vs) k v f h = absurd (false≢true h)
rows_kept (r ∷ rs) [] k v f h = absurd (false≢true h)
rows_kept (r ∷ rs) (x ∷ vs) zero v f h = and_both f (and_right (in_row r x) (in_rows rs vs) h)
rows_kept (r ∷ rs) (x ∷ vs) (suc k) v f h =
    and_both (and_left (in_row r x) (in_rows rs vs) h) (rows_kept rs vs k v f (and_right (in_row r x) (in_rows rs vs) h))

module _ (p : Params) (id : ℕ) (v : ℤ) (h : sound_params p ≡ true) (e : write_allowed p id v ≡ true) where
  -- the id struck out, the list is the one that the marks decide
  list_kept_lem : list_kept (stored p id v) ≡ true
  unfolding list_kept
  list_kept_lem =
      let twelve = twelve_marks p h in
      let out = ap (struck id) (kept_list p h) ∙ struck-out p id v (taken_id p id v e) twelve in
      and_both (eq-eqb (length (stored p id v).written) 12 (length-set p.written (id - 1) true ∙ twelve))
      (ap (same_list (stored p id v).missing) (sym out) ∙ same_self (stored p id v).missing)

  -- a taken write keeps sound parameters sound
  pub stored_sound : sound_params (stored p id v) ≡ true
  unfolding sound_params
  stored_sound =
      let judged : (in_row (param_row id) v && in_span (stored p id v)) ≡ true = sym (id_taken p id v (taken_id p id v e)) ∙ e in
      and_both (rows_kept param_rows p.values (id - 1) v (and_left (in_row (param_row id) v) _ judged) (in_rows_lem p h))
      (and_both (and_right (in_row (param_row id) v) _ judged) list_kept_lem)

-- whatever is written, sound parameters stay sound: those that a write gives, and where it gives none, those that are there
pub write_sound : (p : Params) (id : ℕ) (v : ℤ) → sound_params p ≡ true → IfSome (write_of p id v) (λ q. sound_params q ≡ true)
unfolding write_of
write_sound p id v h =
    by-test (λ (o : Option Params). IfSome o (λ q. sound_params q ≡ true)) (write_allowed p id v) (λ e. stored_sound p id v h e) (λ e. tt)
