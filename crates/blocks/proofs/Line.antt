-- Blocks one behind the other, from a place i on: how many, where each stands, and what they depend on.
use Prim.Native.Nat.{ℕ, zero, suc, ◌+◌, ◌-◌, ◌≤◌, ◌<◌}
use native.Mathlib.Omega.{arith}
use native.Mathlib.Numerals.{add-one}
use mathlib.Core.Path.{◌≡◌, refl, sym, ap, ◌∙◌}
use mathlib.Core.List.{List, [], ◌∷◌, ◌++◌}
use lib.ListN.{length, drop, get_or}
use Rattle.blocks.specs.Stores.{place_behind, block_at, blocks_from}
use Rattle.blocks.proofs.Places.{place_in, place_none, place-next}

-- as many as asked
pub from-length : (n : ℕ) (s : List ℕ) (i m : ℕ) → length (blocks_from n s i m) ≡ m
unfolding blocks_from
from-length n s i zero = refl
from-length n s i (suc m) = ap suc (from-length n s (place_behind n i 1) m)

-- the k-th of them stands k places behind the first
pub from_at : (n : ℕ) (s : List ℕ) (i m k : ℕ) → i < n → m ≤ n → k < m → get_or (blocks_from n s i m) k [] ≡ block_at s (place_behind n i k)
unfolding blocks_from
from_at n s i zero k h l hk = absurd (omega arith)
from_at n s i (suc m) zero h l hk = ap (block_at s) (sym (place_none n i h))
from_at n s i (suc m) (suc k) h l hk =
    from_at n s (place_behind n i 1) m k (place_in n i h 1 (omega arith)) (omega arith) (omega arith)
    ∙ ap (block_at s) (place-next n i h k (omega arith) ∙ ap (place_behind n i) (add-one k))

-- one more of them stands behind the others
pub from_more : (n : ℕ) (s : List ℕ) (i m : ℕ) → i < n → m < n → blocks_from n s i (suc m) ≡ blocks_from n s i m ++ (block_at s (place_behind n i m) ∷ [])
unfolding blocks_from
from_more n s i zero h l = ap (λ (j : ℕ). block_at s j ∷ []) (sym (place_none n i h))
from_more n s i (suc m) h l =
    ap (λ (q : List (List ℕ)). block_at s i ∷ q)
    (from_more n s (place_behind n i 1) m (place_in n i h 1 (omega arith)) (omega arith)
    ∙ ap (λ (j : ℕ). blocks_from n s (place_behind n i 1) m ++ (block_at s j ∷ [])) (place-next n i h m (omega arith) ∙ ap (place_behind n i) (add-one m)))

-- they are the same in two stores that have the same blocks there
pub from-same : (n : ℕ) (s t : List ℕ) (i m : ℕ) → i < n → m ≤ n
    → ((k : ℕ) → k < m → block_at s (place_behind n i k) ≡ block_at t (place_behind n i k)) → blocks_from n s i m ≡ blocks_from n t i m
unfolding blocks_from
from-same n s t i zero h l f = refl
from-same n s t i (suc m) h l f =
    let first : block_at s i ≡ block_at t i = rw (place_none n i h) at (f 0 (omega arith)) in
    let rest = from-same n s t (place_behind n i 1) m (place_in n i h 1 (omega arith)) (omega arith)
    (λ k hk. rw (place-next n i h k (omega arith)) (f (k + 1) (omega arith))) in
    rw (first, rest)

-- without the first, they are those from the next place on
pub from-drop : (n : ℕ) (s : List ℕ) (i m : ℕ) → blocks_from n s (place_behind n i 1) (m - 1) ≡ drop 1 (blocks_from n s i m)
unfolding blocks_from
from-drop n s i zero = refl
from-drop n s i (suc m) = let e : suc m - 1 ≡ m = omega arith in ap (blocks_from n s (place_behind n i 1)) e

-- the first of them stands at that place
pub from_first : (n : ℕ) (s : List ℕ) (i m : ℕ) → 0 < m → get_or (blocks_from n s i m) 0 [] ≡ block_at s i
unfolding blocks_from
from_first n s i zero h = absurd (omega arith)
from_first n s i (suc m) h = refl
