-- The numbers of a command, one by one.
-- Assumes nothing.
use Prim.Native.Nat.{ℕ, ◌+◌, ◌<◌}
use native.Mathlib.Omega.{arith}
use native.Mathlib.Numerals.{add-one}
use mathlib.Core.Path.{◌≡◌, refl, ap, ◌∙◌}
use mathlib.Core.Bool.{◌&&◌}
use mathlib.Core.List.{List, [], ◌∷◌, ◌++◌, map, append-nil}
use lib.ListN.{length, set, drop, replicate}
use lib.Seq.{sets, sets-eq, drop-cons}
use Rattle.std.specs.Prelude.{Option, None}
use Rattle.decimals.specs.declared.Number.{Number}
use Rattle.aircraft_lines.specs.Asked.{number_at, is_plain, all_plain, size_of, sizes_in}

-- the numbers from a place on begin with that one
pub number_on : (l : List (Option Number)) (i : ℕ) → i < length l → drop i l ≡ number_at l i ∷ drop (i + 1) l
number_on l i h = rw (add-one, drop-cons l i None h)

pub plain_on : (l : List (Option Number)) (i : ℕ) → i < length l → all_plain (drop i l) ≡ (is_plain (number_at l i) && all_plain (drop (i + 1) l))
unfolding all_plain
plain_on l i h = ap all_plain (number_on l i h)

-- the sizes of nine
pub nine_sizes : (l : List (Option Number)) → length l ≡ 9 → sizes_in l ≡ map size_of l
nine_sizes [] e = absurd (omega arith)
nine_sizes (a ∷ []) e = absurd (omega arith)
nine_sizes (a ∷ b ∷ []) e = absurd (omega arith)
nine_sizes (a ∷ b ∷ c ∷ []) e = absurd (omega arith)
nine_sizes (a ∷ b ∷ c ∷ d ∷ []) e = absurd (omega arith)
nine_sizes (a ∷ b ∷ c ∷ d ∷ f ∷ []) e = absurd (omega arith)
nine_sizes (a ∷ b ∷ c ∷ d ∷ f ∷ g ∷ []) e = absurd (omega arith)
nine_sizes (a ∷ b ∷ c ∷ d ∷ f ∷ g ∷ h ∷ []) e = absurd (omega arith)
nine_sizes (a ∷ b ∷ c ∷ d ∷ f ∷ g ∷ h ∷ i ∷ []) e = absurd (omega arith)
nine_sizes (a ∷ b ∷ c ∷ d ∷ f ∷ g ∷ h ∷ i ∷ j ∷ []) e = refl
nine_sizes (a ∷ b ∷ c ∷ d ∷ f ∷ g ∷ h ∷ i ∷ j ∷ k ∷ l) e = absurd (omega arith)

-- the first nine, where there are nine; two and one
abbrev firsts : List (Option Number) → List (Option Number)
firsts l = sets (replicate 9 None) 0 l

pub nine_firsts : (l : List (Option Number)) → length l ≡ 9 → firsts l ≡ l
nine_firsts l e =
    let z : 0 + length l ≡ 9 = omega arith in
    sets-eq l (replicate 9 None) 0 (omega arith)
    ∙ ap (λ (k : ℕ). l ++ drop k (replicate 9 None)) z
    ∙ append-nil l

pub two_firsts : (l : List (Option Number)) → length l ≡ 2 → number_at (firsts l) 0 ∷ number_at (firsts l) 1 ∷ [] ≡ l
two_firsts [] e = absurd (omega arith)
two_firsts (a ∷ []) e = absurd (omega arith)
two_firsts (a ∷ b ∷ []) e = refl
two_firsts (a ∷ b ∷ c ∷ l) e = absurd (omega arith)

pub one_first : (l : List (Option Number)) → length l ≡ 1 → number_at (firsts l) 0 ∷ [] ≡ l
one_first [] e = absurd (omega arith)
one_first (a ∷ []) e = refl
one_first (a ∷ b ∷ l) e = absurd (omega arith)

-- nine sizes stored over as many
pub nine_stored : (l : List ℕ) → length l ≡ 9 → sets (replicate 9 0) 0 l ≡ l
nine_stored l e =
    let z : 0 + length l ≡ 9 = omega arith in
    sets-eq l (replicate 9 0) 0 (omega arith) ∙ ap (λ (k : ℕ). l ++ drop k (replicate 9 0)) z ∙ append-nil l

-- one size is stored, and those behind it are left
pub size_on : (v w : List ℕ) (l : List (Option Number)) (i : ℕ) (s : ℕ) → i < length l → s ≡ size_of (number_at l i)
    → sets v i (map size_of (drop i l)) ≡ w → sets (set v i s) (i + 1) (map size_of (drop (i + 1) l)) ≡ w
size_on v w l i s h e inv = rw (add-one, e) (rw (number_on l i h, add-one) at inv)
