-- The kept list: what it is by the marks, what a write makes of it, and its number as the library has it (compared: Numbers.antt).
-- Assumes nothing.
use Prim.Native.Nat.{ℕ, ◌+◌, ◌*◌, ◌<◌, ◌≤◌, ◌-◌}
use native.Mathlib.Omega.{arith}
use native.Mathlib.Numerals.{add-one}
use mathlib.Core.Path.{◌≡◌, refl, ap, ◌∙◌}
use mathlib.Core.Bool.{Bool, true, false, not, ◌&&◌, cond}
use mathlib.Core.List.{List, [], ◌∷◌}
use borrow.Author.Tests.{eqb-true}
use lib.Dec.{eqb}
use lib.IntN.{ℤ}
use lib.ListN.{length, drop, get_or, drop_of_length-le}
use Rattle.std.proofs.Common.{w32, w64, get_or-drop}
use Rattle.std.specs.Int.{from_le_bytes, to_le_bytes}
use lib.Seq.{drop-cons}
use Rattle.rows.proofs.Bool.{and_left, and_right, every-at}
use Rattle.rows.specs.Same.{same_list}
use Rattle.rows.proofs.Same.{same_once}
use Rattle.params.specs.declared.Params.{Params}
use Rattle.params.specs.Rows.{param_ids, param_row, param_rows, no_param_row}
use Rattle.params.specs.Rules.{marked, filter, missing_ids, missing_of, is_id, struck, stored}
use Rattle.params.proofs.Laws.{id_within, stored_at}
use Rattle.params.specs.Packed.{index, list_by, list_for}

-- ---- a filter, from a place on

unfoldable pub passing : (ℕ → Bool) → List ℕ → ℕ → List ℕ
passing test l i = filter test (drop i l)

module _ (test : ℕ → Bool) (l : List ℕ) (i : ℕ) where
  pub passes : i < length l → test (get_or l i 0) ≡ true → passing test l i ≡ get_or l i 0 ∷ passing test l (i + 1)
  unfolding passing filter
  passes h e = rw (drop-cons l i 0 h, e, add-one)

  pub fails : i < length l → test (get_or l i 0) ≡ false → passing test l i ≡ passing test l (i + 1)
  unfolding passing filter
  fails h e = rw (drop-cons l i 0 h, e, add-one)

  pub none_left : length l ≤ i → passing test l i ≡ []
  unfolding passing filter
  none_left h = rw (drop_of_length-le l h)

-- another id
abbrev pub other : ℕ → ℕ → Bool
other id k = not (eqb k id)

-- the ids that are asked, from place i on
abbrev asked : ℕ → Bool
asked id = (param_row id).asked

abbrev pub asked_from : ℕ → List ℕ
asked_from i = passing asked param_ids i

module _ (i : ℕ) (h : i < 12) where
  -- place i has the id i + 1, and its row
  here : get_or param_ids i 0 ≡ i + 1
  here = eqb-true (get_or param_ids i 0) (i + 1) (every-at (λ k. eqb (get_or param_ids k 0) (k + 1)) 12 i refl h)

  row_of : (param_row (get_or param_ids i 0)).asked ≡ (get_or param_rows i no_param_row).asked
  row_of = let place : i + 1 - 1 ≡ i = omega arith in rw (here, place)

  pub asked_here : (get_or param_rows i no_param_row).asked ≡ true → asked_from i ≡ (i + 1) ∷ asked_from (i + 1)
  asked_here e = passes asked param_ids i h (row_of ∙ e) ∙ ap (λ k. k ∷ asked_from (i + 1)) here

  pub not_asked_here : (get_or param_rows i no_param_row).asked ≡ false → asked_from i ≡ asked_from (i + 1)
  not_asked_here e = fails asked param_ids i h (row_of ∙ e)

-- ---- a test of every mark

abbrev both : (Bool → Bool) → Bool
both f = f true && f false

both_at : (f : Bool → Bool) → both f ≡ true → (b : Bool) → f b ≡ true
both_at f h true = and_left (f true) (f false) h
both_at f h false = and_right (f true) (f false) h

abbrev Marks : Type 0
Marks = Bool → Bool → Bool → Bool → Bool → Bool

abbrev all : Marks → Bool
all f = both (λ a. both (λ b. both (λ c. both (λ d. both (λ e. f a b c d e)))))

all-at : (f : Marks) → all f ≡ true → (a b c d e : Bool) → f a b c d e ≡ true
all-at f h a b c d e =
    let one = both_at (λ a. both (λ b. both (λ c. both (λ d. both (λ e. f a b c d e))))) h a in
    let two = both_at (λ b. both (λ c. both (λ d. both (λ e. f a b c d e)))) one b in
    let three = both_at (λ c. both (λ d. both (λ e. f a b c d e))) two c in
    both_at (λ e. f a b c d e) (both_at (λ d. both (λ e. f a b c d e)) three d) e

-- ---- the right list

-- it is by the marks of those that are asked
pub by_marks : (p : Params) → missing_of p ≡ list_by (marked p 1) (marked p 2) (marked p 3) (marked p 6) (marked p 7)
unfolding missing_of missing_ids filter list_by
by_marks p = refl

pub for_marks : (a b c d e : Bool) → list_for (index a b c d e) ≡ list_by a b c d e
unfolding same_list list_for list_by
for_marks a b c d e = same_once _ _ (all-at (λ a b c d e. same_list (list_for (index a b c d e)) (list_by a b c d e)) refl a b c d e)

-- it has eight places
pub by_long : (a b c d e : Bool) → length (list_by a b c d e) ≡ 8
unfolding list_by
by_long a b c d e = eqb-true (length (list_by a b c d e)) 8 (all-at (λ a b c d e. eqb (length (list_by a b c d e)) 8) refl a b c d e)

-- ---- as one number

-- its eight places are the bytes of its number
pub by_bytes : (a b c d e : Bool) → to_le_bytes w64 (from_le_bytes w64 (list_by a b c d e)) ≡ list_by a b c d e
unfolding same_list list_by
by_bytes a b c d e =
    same_once _ _ (all-at (λ a b c d e. same_list (to_le_bytes w64 (from_le_bytes w64 (list_by a b c d e))) (list_by a b c d e)) refl a b c d e)

-- a number of eight bytes by its halves
pub halves : (l : List ℕ) → from_le_bytes w32 l + 0x1_0000_0000 * from_le_bytes w32 (drop 4 l) ≡ from_le_bytes w64 l
halves l = omega (arith, get_or-drop {A = ℕ})

-- it has eight places
pub missing_long : (p : Params) → length (missing_of p) ≡ 8
missing_long p = ap length (by_marks p) ∙ by_long _ _ _ _ _

-- ---- a write

-- a mark that is set where its id is written
abbrev also : ℕ → ℕ → Bool → Bool
also id k b = cond (eqb id k) true b

abbrev strikes : ℕ → Marks
strikes id a b c d e = same_list (struck id (list_by a b c d e)) (list_by (also id 1 a) (also id 2 b) (also id 3 c) (also id 6 d) (also id 7 e))

struck_by : (id : ℕ) → is_id id ≡ true → (a b c d e : Bool)
    → struck id (list_by a b c d e) ≡ list_by (also id 1 a) (also id 2 b) (also id 3 c) (also id 6 d) (also id 7 e)
unfolding same_list struck filter list_by
struck_by id i a b c d e =
    let place : id - 1 + 1 ≡ id = omega (arith, id_within id i) in
    let tested : all (strikes (id - 1 + 1)) ≡ true = every-at (λ k. all (strikes (k + 1))) 12 (id - 1) refl (omega (arith, id_within id i)) in
    same_once _ _ (all-at (strikes id) (rw place at tested) a b c d e)

-- the id of a write struck out of the right list, it is the right list of what is written then
pub struck-out : (p : Params) (id : ℕ) (v : ℤ) → is_id id ≡ true → length p.written ≡ 12 → struck id (missing_of p) ≡ missing_of (stored p id v)
unfolding is_id
struck-out p id v i twelve =
    let at : (k : ℕ) → is_id k ≡ true → marked (stored p id v) k ≡ also id k (marked p k) =
    λ k e. stored_at p.written id k true false twelve i e in
    rw (by_marks p, by_marks (stored p id v), at 1 refl, at 2 refl, at 3 refl, at 6 refl, at 7 refl)
    (struck_by id i (marked p 1) (marked p 2) (marked p 3) (marked p 6) (marked p 7))
