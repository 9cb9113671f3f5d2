-- The rules of the parameters, each a definition that decides the result.
use Rattle.std.specs.Prelude.{ℕ, ◌-◌, List, [], ◌∷◌, map, ◌⊎◌, Bool, true, false, not, ◌&&◌, cond, ℤ, pos, leb, eqb, length, get_or, set, replicate, Option, Some, None}
use Rattle.std.proofs.Common.{inl, inr}
use Rattle.std.specs.Int.Signed.{lt_z, le_z}
use Rattle.std.proofs.lemmas.List.Edits.{sets}
use Rattle.rows.specs.Same.{same_list}
use Rattle.params.specs.declared.ParamRow.{ParamRow}
use Rattle.params.specs.declared.Params.{Params}
use Rattle.params.specs.Rows.{param_rows, param_ids, param_row}

-- "Ids 0 and over 12 get 0x39": an id is 1 to 12
unfoldable pub is_id : ℕ → Bool
is_id id = leb 1 id && leb id 12

-- the value of an id
abbrev pub value_at : Params → ℕ → ℤ
value_at p id = get_or p.values (id - 1) (pos 0)

-- whether an id is marked written
abbrev pub marked : Params → ℕ → Bool
marked p id = get_or p.written (id - 1) false

-- a value from its row's least to its most
abbrev pub in_row : ParamRow → ℤ → Bool
in_row r v = le_z r.least v && le_z v r.most

-- "parameter 1 below parameter 2"
abbrev pub in_span : Params → Bool
in_span p = lt_z (value_at p 1) (value_at p 2)

-- each value in its row, and as many values as rows
unfoldable pub in_rows : List ParamRow → List ℤ → Bool
in_rows [] [] = true
in_rows [] (v ∷ vs) = false
in_rows (r ∷ rs) [] = false
in_rows (r ∷ rs) (v ∷ vs) = in_row r v && in_rows rs vs

-- those of a list that pass a test, in the list's order
unfoldable pub filter : (ℕ → Bool) → List ℕ → List ℕ
filter test [] = []
filter test (x ∷ xs) = cond (test x) (x ∷ filter test xs) (filter test xs)

-- "asked .. not written since Initialise"
abbrev pub is_missing : Params → ℕ → Bool
is_missing p id = (param_row id).asked && not (marked p id)

-- all such ids, rising
unfoldable pub missing_ids : Params → List ℕ
missing_ids p = filter (is_missing p) param_ids

-- "eight ids: the asked parameters not written since Initialise, rising, then zeros"
unfoldable pub missing_of : Params → List ℕ
missing_of p = sets (replicate 8 0) 0 (missing_ids p)

-- request No. 5: "the kept list is exactly the one that document 01 defines from the written marks", of which there are twelve
unfoldable pub list_kept : Params → Bool
list_kept p = eqb (length p.written) 12 && same_list p.missing (missing_of p)

-- "each parameter in its row and parameter 1 below parameter 2", and that list
unfoldable pub sound_params : Params → Bool
sound_params p = in_rows param_rows p.values && (in_span p && list_kept p)

-- "parameters .. at their starts", "nothing marked written": so all that are asked are missing
unfoldable pub start_params : Params
start_params =
    record { values = map (λ (r : ParamRow). r.start) param_rows; written = replicate 12 false; missing = 1 ∷ 2 ∷ 3 ∷ 6 ∷ 7 ∷ 0 ∷ 0 ∷ 0 ∷ [] }

-- a list of eight without an id: those behind it move up
unfoldable pub struck : ℕ → List ℕ → List ℕ
struck id l = sets (replicate 8 0) 0 (filter (λ k. not (eqb k id)) l)

-- the state with a value stored and marked, and its id struck out
abbrev pub stored : Params → ℕ → ℤ → Params
stored p id v = record { values = set p.values (id - 1) v; written = set p.written (id - 1) true; missing = struck id p.missing }

-- a write is taken: an id, a value in its row, and not "a write that would leave 1 not below 2"
unfoldable pub write_allowed : Params → ℕ → ℤ → Bool
write_allowed p id v = is_id id && (in_row (param_row id) v && in_span (stored p id v))

-- a write: stored, marked and struck out when it is taken, else refused
unfoldable pub write_of : Params → ℕ → ℤ → Option Params
write_of p id v = cond (write_allowed p id v) (Some (stored p id v)) None

-- "A field outside its bounds: 0x39"
abbrev pub outside_error : ℕ
outside_error = 0x39

-- what a read of an id is answered: its value, on the right, or that error, on the left
unfoldable pub value_read : Params → ℕ → ℕ ⊎ ℤ
value_read p id = cond (is_id id) (inr (value_at p id)) (inl outside_error)

-- the number or the value that each answer of the code stands for: an id that holds nothing is outside its bounds
abbrev pub reading_said : Option ℤ → ℕ ⊎ ℤ
reading_said None = inl outside_error
reading_said (Some v) = inr v
