-- The table of document 01, "Parameters".
use Rattle.std.specs.Prelude.{ℕ, ◌-◌, List, [], ◌∷◌, Bool, true, false, ℤ, pos, neg_ℤ, get_or}
use Rattle.params.specs.declared.ParamRow.{ParamRow}

-- a row by its columns
abbrev pub param_line : ℤ → ℤ → ℤ → Bool → ParamRow
param_line l m s a = record { least = l; most = m; start = s; asked = a }

-- a number below 0
abbrev pub minus : ℕ → ℤ
minus n = neg_ℤ (pos n)

-- the row of each trim
abbrev pub trim : ParamRow
trim = param_line (minus 500) (pos 500) (pos 0) false

-- least, most, start, asked, by id
abbrev pub param_rows : List ParamRow
param_rows =
    param_line (minus 4000) (pos 15000) (minus 2000) true  -- 1: span low, 0.01 C
    ∷ param_line (minus 4000) (pos 15000) (pos 12000) true  -- 2: span high, 0.01 C
    ∷ param_line (pos 100) (pos 1000) (pos 950) true  -- 3: emissivity, thousandths
    ∷ param_line (pos 40) (pos 60000) (pos 1000) false  -- 4: frame interval, ms
    ∷ param_line (pos 1) (pos 16) (pos 16) false  -- 5: passes
    ∷ param_line (minus 4000) (pos 15000) (pos 2000) true  -- 6: reflected, 0.01 C
    ∷ param_line (pos 0) (pos 3) (pos 0) true  -- 7: lens
    ∷ param_line (pos 0) (pos 7) (pos 0) false  -- 8: palette
    ∷ trim  -- 9 to 12: trims
    ∷ trim
    ∷ trim
    ∷ trim
    ∷ []

-- the ids that have a row, rising
abbrev pub param_ids : List ℕ
param_ids = 1 ∷ 2 ∷ 3 ∷ 4 ∷ 5 ∷ 6 ∷ 7 ∷ 8 ∷ 9 ∷ 10 ∷ 11 ∷ 12 ∷ []

-- what stands past the table's end, where nothing reads
abbrev pub no_param_row : ParamRow
no_param_row = param_line (pos 0) (pos 0) (pos 0) false

-- the row of an id
abbrev pub param_row : ℕ → ParamRow
param_row id = get_or param_rows (id - 1) no_param_row
