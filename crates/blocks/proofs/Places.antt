-- Places in a store of n blocks: where they are, and which are apart.
use Prim.Native.Nat.{ℕ, ◌+◌, ◌-◌, ◌≤◌, ◌<◌}
use native.Mathlib.Nat.{mod-eq_of_lt, mod-eq-sub-mod}
use native.Mathlib.Omega.{arith}
use mathlib.Core.Path.{◌≡◌, ◌∙◌}
use mathlib.Core.Bool.{true}
use lib.Dec.{ltb, leb}
use borrow.Author.Tests.{ltb-true, ltb-false, leb-true, lt-ltb, le-leb}
use Rattle.rows.proofs.Bool.{split, and_left, and_right}
use Rattle.blocks.specs.declared.Ring.{Ring}
use Rattle.blocks.specs.Stores.{sound_ring, place_behind}

-- the bounds of a sound ring, as facts
pub bounds : (n : ℕ) (r : Ring) → sound_ring n r ≡ true → (r.oldest < n) × (r.waiting ≤ n)
unfolding sound_ring
bounds n r h =
    (ltb-true r.oldest n (and_left (ltb r.oldest n) (leb r.waiting n) h), leb-true r.waiting n (and_right (ltb r.oldest n) (leb r.waiting n) h))

-- a ring within its bounds is sound
pub within : (n : ℕ) (r : Ring) → r.oldest < n → r.waiting ≤ n → sound_ring n r ≡ true
unfolding sound_ring
within n r h k = simp (lt-ltb _ _ h, le-leb _ _ k)

pub place_on : (n i k : ℕ) → i + k < n → place_behind n i k ≡ i + k
unfolding place_behind
place_on n i k h = mod-eq_of_lt h

pub place_round : (n i k : ℕ) → n ≤ i + k → i + k < n + n → place_behind n i k ≡ i + k - n
unfolding place_behind
place_round n i k h once = mod-eq-sub-mod h ∙ mod-eq_of_lt (omega arith)

-- only the sum counts
place-sum : (n i k j m : ℕ) → i + k ≡ j + m → place_behind n i k ≡ place_behind n j m
unfolding place_behind
place-sum n i k j m e = rw e

-- a place is where it is in one of two ways: further on, or round the end
pub by_place {ℓ} : {C : Type ℓ} (n i k : ℕ) → i + k < n + n → (i + k < n → place_behind n i k ≡ i + k → C) → (n ≤ i + k → place_behind n i k ≡ i + k - n → C) → C
by_place n i k once f g =
    split (ltb (i + k) n)
    (λ e. let h = ltb-true (i + k) n e in f h (place_on n i k h))
    (λ e. let h = ltb-false (i + k) n e in g h (place_round n i k h once))

module _ (n i : ℕ) (h : i < n) where
  -- no place behind a place is outside of the store
  pub place_in : (k : ℕ) → k ≤ n → place_behind n i k < n
  place_in k hk = by_place n i k (omega arith) (λ a e. omega arith) (λ a e. omega arith)

  pub place_none : place_behind n i 0 ≡ i
  place_none = by_place n i 0 (omega arith) (λ a e. omega arith) (λ a e. omega arith)

  -- one place on, and then k places, is k + 1 places on
  pub place-next : (k : ℕ) → k < n → place_behind n (place_behind n i 1) k ≡ place_behind n i (k + 1)
  place-next k hk =
      let j = place_behind n i 1 in
      by_place n i 1 (omega arith)
      (λ a e. place-sum n j k i (k + 1) (omega arith))
      (λ a e. omega (arith, place_on n j k (omega arith), place_round n i (k + 1) (omega arith) (omega arith)))

  -- fewer than n places on, no place comes twice
  pub place-apart : (j k : ℕ) → j < k → k < n → place_behind n i j ≡ place_behind n i k → ⊥
  place-apart j k hj hk e =
      by_place n i j (omega arith)
      (λ a ea. by_place n i k (omega arith) (λ b eb. omega arith) (λ b eb. omega arith))
      (λ a ea. by_place n i k (omega arith) (λ b eb. omega arith) (λ b eb. omega arith))

  -- n places on is the place itself
  pub place-all : place_behind n i n ≡ i
  place-all = by_place n i n (omega arith) (λ a e. omega arith) (λ a e. omega arith)

-- the place behind those that wait is in the store
pub behind_in : (n : ℕ) (r : Ring) → sound_ring n r ≡ true → r.waiting < n → place_behind n r.oldest r.waiting < n
behind_in n r ok room = place_in n r.oldest (bounds n r ok).0 r.waiting (omega arith)
