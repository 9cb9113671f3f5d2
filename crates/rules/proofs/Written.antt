-- Each parameter and its mark are those of the history: what was last written since the beginning, and whether it was.
-- Assumes nothing.
use Prim.Native.Nat.{ℕ, ◌-◌}
use native.Mathlib.Omega.{arith}
use mathlib.Core.Path.{◌≡◌, refl, ◌∙◌}
use mathlib.Core.Bool.{Bool, true, false, ◌&&◌, ◌||◌, cond}
use mathlib.Core.List.{List}
use lib.Dec.{eqb}
use lib.IntN.{ℤ, pos}
use lib.ListN.{length, length-set, get_or-replicate}
use Rattle.rows.proofs.Bool.{and_left}
use Rattle.params.specs.declared.Params.{Params}
use Rattle.params.specs.Rows.{param_row}
use Rattle.params.specs.Rules.{is_id, value_at, marked, in_row, in_span, start_params, stored, write_allowed}
use Rattle.params.proofs.Laws.{id_within, id_held, start_held, start_marks, stored_at}
use Rattle.rules.specs.State.{Lent, fresh_pod}
use Rattle.rules.specs.Obey.{initialised_pod, done_by}
use Rattle.rules.specs.World.{World, Call, final, powered}
use Rattle.rules.specs.History.{events, fold, value_by, mark_by}
use Rattle.rules.proofs.Eventful.{quiet, anew, initialised, slept, updated, wrote, began, closed, acknowledged, shelved, spoken, touched}
use Rattle.rules.proofs.Histories.{Keeps, history, powered_fresh}
use Rattle.rules.proofs.Untouched.{acknowledged_untouched}

-- ---- one write

-- only ids are written
allowed_id : (q : Params) (id : ℕ) (v : ℤ) → write_allowed q id v ≡ true → is_id id ≡ true
unfolding write_allowed
allowed_id q id v e = and_left (is_id id) (in_row (param_row id) v && in_span (stored q id v)) e

true_or : (a b : Bool) → cond a true b ≡ (a || b)
true_or true b = refl
true_or false b = refl

-- ---- the value of an id

module _ (id : ℕ) (i : is_id id ≡ true) where
  -- it is so, and there is a value for each id
  abbrev ValuedAs : World → ℤ → Type 0
  ValuedAs w v = (length w.pod.params.values ≡ 12) × (value_at w.pod.params id ≡ v)

  start_value : (length start_params.values ≡ 12) × (value_at start_params id ≡ (param_row id).start)
  unfolding start_params
  start_value = (refl, let a = id_held start_params id i in let b = start_held id i in cc)

  value_kept : Keeps (value_by id) ValuedAs
  unfolding value_by done_by initialised_pod fresh_pod
  value_kept w _ _ quiet v h = h
  value_kept w _ _ anew v h = start_value
  value_kept w _ _ (initialised f) v h = start_value
  value_kept w _ _ (slept on) v h = h
  value_kept w _ _ (updated f) v h = h
  value_kept w _ _ (wrote k u a) v h =
      let q = w.pod.params in
      (length-set q.values (k - 1) u ∙ h.0, rw (← h.1) (stored_at q.values k id u (pos 0) h.0 (allowed_id q k u a) i))
  value_kept w _ _ (began x on k) v h = h
  value_kept w _ _ closed v h = h
  value_kept w _ _ (acknowledged first one k) v h = rw (acknowledged_untouched first one w.pod).params h
  value_kept w _ _ (shelved s b k) v h = h
  value_kept w _ _ (spoken c k) v h = h
  value_kept w _ _ (touched c k) v h = h

  pub value_is : (l : Lent) (cs : List Call)
      → value_at (final (powered l) cs).pod.params id ≡ fold (value_by id) (param_row id).start (events (powered l) cs)
  unfolding fresh_pod
  value_is l cs = (history (value_by id) ValuedAs value_kept cs (powered l) (param_row id).start (rw (powered_fresh l) start_value)).1

  -- ---- its mark

  abbrev MarkedAs : World → Bool → Type 0
  MarkedAs w m = (length w.pod.params.written ≡ 12) × (marked w.pod.params id ≡ m)

  start_mark : (length start_params.written ≡ 12) × (marked start_params id ≡ false)
  start_mark = rw start_marks (refl, get_or-replicate 12 (id - 1) false false (omega (arith, id_within id i)))

  mark_kept : Keeps (mark_by id) MarkedAs
  unfolding mark_by done_by initialised_pod fresh_pod
  mark_kept w _ _ quiet m h = h
  mark_kept w _ _ anew m h = start_mark
  mark_kept w _ _ (initialised f) m h = start_mark
  mark_kept w _ _ (slept on) m h = h
  mark_kept w _ _ (updated f) m h = h
  mark_kept w _ _ (wrote k u a) m h =
      let q = w.pod.params in
      (length-set q.written (k - 1) true ∙ h.0, rw (← h.1) (stored_at q.written k id true false h.0 (allowed_id q k u a) i ∙ true_or (eqb k id) (marked q id)))
  mark_kept w _ _ (began x on k) m h = h
  mark_kept w _ _ closed m h = h
  mark_kept w _ _ (acknowledged first one k) m h = rw (acknowledged_untouched first one w.pod).params h
  mark_kept w _ _ (shelved s b k) m h = h
  mark_kept w _ _ (spoken c k) m h = h
  mark_kept w _ _ (touched c k) m h = h

  pub mark_is : (l : Lent) (cs : List Call) → marked (final (powered l) cs).pod.params id ≡ fold (mark_by id) false (events (powered l) cs)
  unfolding fresh_pod
  mark_is l cs = (history (mark_by id) MarkedAs mark_kept cs (powered l) false (rw (powered_fresh l) start_mark)).1
