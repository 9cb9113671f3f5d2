-- The numbers of a text, one at a time from the front.
-- Assumes nothing.
use Prim.Native.Nat.{ℕ, suc, ◌+◌, ◌≤◌, ◌<◌}
use native.Mathlib.Omega.{arith}
use native.Mathlib.Numerals.{add-one}
use mathlib.Core.Path.{◌≡◌, refl, sym, ap, ◌∙◌}
use mathlib.Core.List.{List, [], ◌∷◌, map}
use lib.ListN.{length, drop, get_or, set, length-drop}
use lib.Seq.{sets, set_out, drop-cons, take-length}
use lib.Dec.{eqb}
use Rattle.std.specs.Prelude.{Option, ◌==◌}
use Rattle.std.specs.List.{slice_split}
use Rattle.scans.specs.Scans.{index_of, slice}
use Rattle.rows.proofs.Bool.{split}
use Rattle.decimals.specs.declared.Number.{Number}
use Rattle.decimals.specs.declared.Numbers.{Numbers}
use Rattle.decimals.specs.Reading.{items_in, number_in, numbers_in}

-- the first space of a text is not behind its end
pub index_most : (t : List ℕ) → index_of 32 t ≤ length t
unfolding index_of
index_most [] = omega arith
index_most (c ∷ cs) = split (eqb c 32) (λ e. rw e (omega arith)) (λ e. rw e (omega (arith, index_most cs)))

-- where the search ends ..
pub found_at : (t : List ℕ) (from r : ℕ) → r ≡ from + index_of 32 (slice from (length t) t) → r ≡ from + index_of 32 (drop from t)
found_at t from r e = e ∙ ap (λ (l : List ℕ). from + index_of 32 (drop from l)) (take-length t)

-- .. and that is within the text
pub found_within : (t : List ℕ) (from r : ℕ) → from ≤ length t → r ≡ from + index_of 32 (drop from t) → r ≤ length t
found_within t from r h e = omega (arith, index_most (drop from t), length-drop from t)

-- n numbers are stored in l, and ns is what is read behind them
abbrev pub stored : List (Option Number) → ℕ → List (Option Number) → Numbers
stored l n ns = record { count = n + length ns; list = sets l n ns }

pub all_left : (l : List (Option Number)) (ns : List (Option Number)) → stored l 0 ns ≡ record { count = length ns; list = sets l 0 ns }
all_left l ns = let e : 0 + length ns ≡ length ns = omega arith in rw e

pub none_left : (l : List (Option Number)) (n : ℕ) → record { count = n; list = l } ≡ stored l n []
none_left l n = let e : n + 0 ≡ n = omega arith in rw e

-- one number more, where there is room for it and where there is none
pub one_more : (l : List (Option Number)) (n : ℕ) (v : Option Number) (ns : List (Option Number)) → stored (set l n v) (n + 1) ns ≡ stored l n (v ∷ ns)
one_more l n v ns =
    let e : n + 1 + length ns ≡ n + suc (length ns) = omega arith in
    rw (e, add-one)

pub no_room : (l : List (Option Number)) (n : ℕ) (v : Option Number) (ns : List (Option Number)) → length l ≤ n → stored l (n + 1) ns ≡ stored l n (v ∷ ns)
no_room l n v ns h = ap (λ (x : List (Option Number)). stored x (n + 1) ns) (sym (set_out l n v h)) ∙ one_more l n v ns

-- the next number of a text that is cut
pub next_number : (ps : List (List ℕ)) (n : ℕ) (p : List ℕ) → n < length ps → p ≡ get_or ps n p → map number_in (drop n ps) ≡ number_in p ∷ map number_in (drop (n + 1) ps)
next_number ps n p h is =
    ap (map number_in) (drop-cons ps n p h ∙ ap (λ (k : ℕ). get_or ps n p ∷ drop k ps) (sym (add-one n)))
    ∙ ap (λ (q : List ℕ). number_in q ∷ map number_in (drop (n + 1) ps)) (sym is)

-- the first character is left out
pub numbers_of : (t : List ℕ) → 1 ≤ length t → numbers_in t ≡ map number_in (slice_split (λ c. c == 32) (drop 1 t))
unfolding numbers_in items_in
numbers_of [] h = absurd (omega arith)
numbers_of (c ∷ cs) h = refl

pub no_numbers : (t : List ℕ) → length t < 1 → numbers_in t ≡ []
unfolding numbers_in items_in
no_numbers [] h = refl
no_numbers (c ∷ cs) h = absurd (omega arith)
