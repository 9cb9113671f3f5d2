-- What follows from the rules of the parameters, said so that whoever cites a law need open no definition.
use mathlib.Core.Path.{◌≡◌, refl, ap, ◌∙◌}
use mathlib.Core.Bool.{true, false, ◌&&◌, cond, and-eq-true_iff}
use mathlib.Core.List.{List}
use mathlib.Core.Logic.{inr}
use Prim.Native.Nat.{ℕ, ◌-◌, ◌≤◌}
use native.Mathlib.Omega.{arith}
use borrow.Author.Tests.{leb-true, eqb-true, eqb-false}
use lib.Dec.{leb, eqb}
use lib.IntN.{ℤ}
use lib.ListN.{length, get_or, set, replicate, get_or-map}
use lib.Seq.{get_or-set_same, get_or-set_other}
use Rattle.params.specs.declared.ParamRow.{ParamRow}
use Rattle.params.specs.declared.Params.{Params}
use Rattle.std.proofs.Common.{Option, Some, None}
use Rattle.rows.proofs.Bool.{split}
use Rattle.params.specs.Rows.{param_rows, no_param_row, param_row}
use Rattle.params.specs.Rules.{is_id, value_at, in_row, in_span, start_params, stored, write_allowed, write_of, value_read, reading_said}

-- ---- ids

-- an id is 1 to 12
pub id_within : (id : ℕ) → is_id id ≡ true → (1 ≤ id) × (id ≤ 12)
unfolding is_id
id_within id e =
    let both = (and-eq-true_iff (leb 1 id) (leb id 12)).0 e in
    (leb-true 1 id both.0, leb-true id 12 both.1)

-- ---- what is read

module _ (p : Params) (id : ℕ) where
  -- an id reads as its value
  pub id_held : is_id id ≡ true → value_read p id ≡ inr (value_at p id)
  unfolding value_read
  id_held e = rw e

-- two answers that say the same are the same: what is promised through `reading_said` is decided
pub said_once : (a b : Option ℤ) → reading_said a ≡ reading_said b → a ≡ b
said_once None None e = refl
said_once None (Some v) e = cc
said_once (Some v) None e = cc
said_once (Some v) (Some w) e = cc

-- ---- starts

-- at the starts an id reads as its row's start
pub start_held : (id : ℕ) → is_id id ≡ true → value_read start_params id ≡ inr (param_row id).start
unfolding start_params
start_held id e = id_held start_params id e ∙ ap inr (get_or-map (λ (r : ParamRow). r.start) param_rows (id - 1) no_param_row)

-- at the starts there is a mark for each id, and none is set
pub start_marks : start_params.written ≡ replicate 12 false
unfolding start_params
start_marks = refl

-- ---- writes

module _ (p : Params) (id : ℕ) (v : ℤ) where
  -- a write of an id is taken exactly when the value is in its row and parameter 1 stays below parameter 2
  pub id_taken : is_id id ≡ true → write_allowed p id v ≡ in_row (param_row id) v && in_span (stored p id v)
  unfolding write_allowed
  id_taken e = rw e

  -- what is no id is refused
  pub no_id_refused : is_id id ≡ false → write_of p id v ≡ None
  unfolding write_of write_allowed
  no_id_refused e = rw e

  -- a taken write stores the value, sets the mark and strikes the id out
  pub taken-stored : write_allowed p id v ≡ true → write_of p id v ≡ Some (stored p id v)
  unfolding write_of
  taken-stored e = rw e

  -- any other is refused
  pub refused_none : write_allowed p id v ≡ false → write_of p id v ≡ None
  unfolding write_of
  refused_none e = rw e

  -- only ids are taken
  pub taken_id : write_allowed p id v ≡ true → is_id id ≡ true
  unfolding write_allowed
  taken_id e = ((and-eq-true_iff (is_id id) (in_row (param_row id) v && in_span (stored p id v))).0 e).0

-- of as many as there are ids, stored at an id: what is found at an id
pub stored_at : {A : Type 0} (l : List A) (k id : ℕ) (v d : A) → length l ≡ 12 → is_id k ≡ true → is_id id ≡ true
    → get_or (set l (k - 1) v) (id - 1) d ≡ cond (eqb k id) v (get_or l (id - 1) d)
stored_at l k id v d e i j =
    split (eqb k id)
    (λ s. rw (s, ← (eqb-true k id s)) (get_or-set_same l (k - 1) v d (omega (arith, id_within k i))))
    (λ s. rw s (get_or-set_other l (k - 1) (id - 1) v d (λ z. eqb-false k id s (omega (arith, id_within k i, id_within id j)))))
