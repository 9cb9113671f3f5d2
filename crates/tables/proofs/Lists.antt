-- Runs of stores, and lists by rule.
use mathlib.Core.Path.{◌≡◌, refl, sym, ap, ◌∙◌}
use mathlib.Core.List.{List, [], ◌∷◌, ◌++◌, map}
use Prim.Native.Nat.{ℕ, zero, suc, ◌+◌, ◌<◌, ◌*◌}
use native.Mathlib.Numerals.{add-one}
use native.Mathlib.Nat.{add-zero, add-suc, suc-add}
use native.Mathlib.Omega.{arith}
use Rattle.std.specs.List.{range_with_len}
use Rattle.std.proofs.lemmas.List.FromFn.{fill_by_all, map-range_with_len_more}
use Rattle.std.proofs.lemmas.List.{length-replicate, get_or-replicate}
use lib.ListN.{replicate, length, set, get_or, length-append}
use lib.Seq.{sets}
use Rattle.tables.specs.Tables.{three, listed, start_table, starts}

-- a run of stores with one more at its end
pub sets_snoc : (l : List ℕ) (i : ℕ) (vs : List ℕ) (x : ℕ) → sets l i (vs ++ (x ∷ [])) ≡ set (sets l i vs) (i + length vs) x
sets_snoc l i [] x = rw add-zero
sets_snoc l i (v ∷ vs) x = sets_snoc (set l i v) (suc i) vs x ∙ ap (λ (k : ℕ). set (sets (set l i v) (suc i) vs) k x) (suc-add i (length vs) ∙ sym (add-suc i (length vs)))

pub length_listed : (f : ℕ → ℕ) (n : ℕ) → length (listed f n) ≡ n
unfolding listed
length_listed f zero = refl
length_listed f (suc n) = length-append (listed f n) (f n ∷ []) ∙ ap (λ (k : ℕ). k + 1) (length_listed f n) ∙ add-one n

-- the same by the kit's words
mapped : (f : ℕ → ℕ) (n : ℕ) → map f (range_with_len 0 n) ≡ listed f n
unfolding listed
mapped f zero = refl
mapped f (suc n) = rw add-one at (map-range_with_len_more f 0 n n (omega arith)) ∙ ap (λ (l : List ℕ). l ++ (f n ∷ [])) (mapped f n)

-- a list with a word by rule at each place
listed_all : (f : ℕ → ℕ) (n : ℕ) (l : List ℕ) → length l ≡ n → ((k : ℕ) → k < n → get_or l k 0 ≡ f k) → l ≡ listed f n
listed_all f n l e h = fill_by_all f l n 0 e h ∙ mapped f n

zeros : (n : ℕ) → replicate n 0 ≡ listed (λ (i : ℕ). 0) n
zeros n = listed_all (λ (i : ℕ). 0) n (replicate n 0) (length-replicate n 0) (λ k h. get_or-replicate n k 0 0 h)

-- two tables of zeros, and a third with its words by rule, are at their starts
pub started : (l : List ℕ) → length l ≡ 64 → ((k : ℕ) → k < 64 → get_or l k 0 ≡ 256 * k) → three (replicate 64 0) (replicate 128 0) l ≡ starts
unfolding start_table
started l e h = λ i. three (zeros 64 i) (zeros 128 i) (listed_all (λ (k : ℕ). 256 * k) 64 l e h i)
