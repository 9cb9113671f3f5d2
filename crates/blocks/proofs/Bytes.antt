-- Bytes of a store: what a block written at a place changes and what it keeps, and when two blocks are equal.
use Prim.Native.Nat.{ℕ, ◌+◌, ◌*◌, ◌≤◌, ◌<◌}
use native.Mathlib.Omega.{arith}
use mathlib.Core.Path.{◌≡◌, sym, ap, ◌∙◌}
use mathlib.Core.List.{List, ◌++◌, append_assoc}
use lib.ListN.{length, take, drop, get_or, length-drop}
use lib.Seq.{sets, sets-eq, length-sets, ext_get_or, get_or-take, get_or-drop, length-take-le, take_at, drop_at}
use lib.Dec.{ltb}
use borrow.Author.Tests.{ltb-true, ltb-false}
use Rattle.rows.proofs.Bool.{split}
use Rattle.numbers.proofs.Stores.{sets_before, sets_behind}
use Rattle.blocks.specs.Stores.{block_at}

-- a place in the store has its 256 bytes there
pub block_length : (s : List ℕ) (i : ℕ) → i * 256 + 256 ≤ length s → length (block_at s i) ≡ 256
unfolding block_at
block_length s i h = length-take-le 256 (drop (i * 256) s) (omega (arith, length-drop (i * 256) s))

pub block_byte : (s : List ℕ) (i k : ℕ) → k < 256 → get_or (block_at s i) k 0 ≡ get_or s (i * 256 + k) 0
unfolding block_at
block_byte s i k h = get_or-take 256 (drop (i * 256) s) k 0 h ∙ get_or-drop (i * 256) s k 0

-- two stores have the same block at a place where they have the same 256 bytes
pub block_same : (s t : List ℕ) (i : ℕ) → i * 256 + 256 ≤ length s → i * 256 + 256 ≤ length t
    → ((k : ℕ) → k < 256 → get_or s (i * 256 + k) 0 ≡ get_or t (i * 256 + k) 0) → block_at s i ≡ block_at t i
block_same s t i hs ht f =
    let ls = block_length s i hs in
    ext_get_or 0 (block_at s i) (block_at t i) (ls ∙ sym (block_length t i ht))
    (λ k h. let h2 : k < 256 = omega arith in block_byte s i k h2 ∙ f k h2 ∙ sym (block_byte t i k h2))

-- a block b written at place i
module _ (s : List ℕ) (i : ℕ) (b : List ℕ) (hs : i * 256 + 256 ≤ length s) (hb : length b ≡ 256) where
  -- is the block at that place
  pub block_there : block_at (sets s (i * 256) b) i ≡ b
  unfolding block_at
  block_there =
      let at = i * 256 in
      let rest = drop (at + length b) s in
      ap (λ (l : List ℕ). take 256 (drop at l)) (sets-eq b s at (omega arith) ∙ append_assoc (take at s) b rest)
      ∙ ap (λ (l : List ℕ). take 256 l) (drop_at (take at s) (b ++ rest) at (length-take-le at s (omega arith)))
      ∙ take_at b rest 256 hb

  -- and leaves the block at each other place
  pub block_other : (j : ℕ) → j * 256 + 256 ≤ length s → (j ≡ i → ⊥) → block_at (sets s (i * 256) b) j ≡ block_at s j
  block_other j hj ne =
      block_same (sets s (i * 256) b) s j (omega (arith, length-sets s (i * 256) b)) hj
      (λ k h.
      split (ltb j i)
      (λ e. sets_before b s (i * 256) (j * 256 + k) (omega (arith, ltb-true j i e)))
      (λ e. sets_behind b s (i * 256) (j * 256 + k) (omega (arith, ltb-false j i e, ne))))
