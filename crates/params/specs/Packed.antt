-- The code's way to judge the kept list: as one number, the first place lowest, against that of the right list. No rule is said by it:
-- the rule is `list_kept` (Rules.antt), and a reader of the rules may skip this file.
-- Assumes nothing.
use Rattle.std.specs.Prelude.{ℕ, zero, suc, ◌+◌, ◌*◌, ◌/◌, ◌%◌, Bool, true, false, not, ◌&&◌, cond, List, [], ◌∷◌, eqb, ltb, get_or, replicate}
use Rattle.std.proofs.lemmas.List.Edits.{sets}

-- 1 for a mark
abbrev pub bit_of : Bool → ℕ
bit_of b = cond b 1 0

-- the number whose bytes are the list's, the first one lowest
unfoldable pub low_first : List ℕ → ℕ
low_first [] = 0
low_first (x ∷ l) = x + 256 * low_first l

-- n places of a list from the i-th on, one by one
abbrev pub places : List ℕ → ℕ → ℕ → List ℕ
places l i zero = []
places l i (suc n) = get_or l i 0 ∷ places l (suc i) n

-- each number is a byte's
unfoldable pub bytes : List ℕ → Bool
bytes [] = true
bytes (x ∷ l) = ltb x 256 && bytes l

-- an id in front, unless it is written
abbrev pub unless : Bool → ℕ → List ℕ → List ℕ
unless written id l = cond (not written) (id ∷ l) l

-- the right list, by the marks of 1, 2, 3, 6 and 7
unfoldable pub list_by : Bool → Bool → Bool → Bool → Bool → List ℕ
list_by a b c d e = sets (replicate 8 0) 0 (unless a 1 (unless b 2 (unless c 3 (unless d 6 (unless e 7 [])))))

-- the marks of 1, 2, 3, 6 and 7 as the bits of a number, the first one lowest
abbrev pub index : Bool → Bool → Bool → Bool → Bool → ℕ
index a b c d e = bit_of a + 2 * bit_of b + 4 * bit_of c + 8 * bit_of d + 16 * bit_of e

-- of twelve marks those five, as that number
abbrev pub asked_marks : List Bool → ℕ
asked_marks w = index (get_or w 0 false) (get_or w 1 false) (get_or w 2 false) (get_or w 5 false) (get_or w 6 false)

-- whether a bit is set, by its weight
abbrev pub bit_at : ℕ → ℕ → Bool
bit_at weight k = eqb (k / weight % 2) 1

-- the right list, by that number
unfoldable pub list_for : ℕ → List ℕ
list_for k = list_by (bit_at 1 k) (bit_at 2 k) (bit_at 4 k) (bit_at 8 k) (bit_at 16 k)
