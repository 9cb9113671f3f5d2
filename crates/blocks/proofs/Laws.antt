-- What a store of blocks is to its callers: a line of blocks, where a put joins behind and a drop takes the first away.
use Prim.Native.Nat.{ℕ, ◌+◌, ◌-◌, ◌*◌, ◌≤◌, ◌<◌}
use native.Mathlib.Omega.{arith}
use native.Mathlib.Numerals.{add-one}
use mathlib.Core.Path.{◌≡◌, refl, sym, ap, ◌∙◌}
use mathlib.Core.Bool.{true}
use mathlib.Core.List.{List, [], ◌∷◌, ◌++◌}
use lib.ListN.{length, drop, get_or}
use lib.Seq.{sets, length-sets}
use Rattle.blocks.specs.declared.Ring.{Ring}
use Rattle.blocks.specs.Stores.{sound_ring, empty_ring, place_behind, block_at, blocks_from, blocks_in, oldest_of, put_ring, put_store, dropped_ring}
use Rattle.blocks.proofs.Places.{bounds, within, place_in, place-next, place-apart, place-all}
use Rattle.blocks.proofs.Line.{from-length, from_at, from_more, from-same, from-drop, from_first}
use Rattle.numbers.proofs.Stores.{sets_before, sets_behind}
use Rattle.blocks.proofs.Bytes.{block_length, block_same, block_there, block_other}

headed : (q : List (List ℕ)) → 0 < length q → q ≡ get_or q 0 [] ∷ drop 1 q
headed [] h = absurd (omega arith)
headed (b ∷ q) h = refl

-- ---- the blocks that wait

module _ (n : ℕ) (r : Ring) (s : List ℕ) where
  -- as many blocks wait as the ring counts
  pub length_is_count : length (blocks_in n r s) ≡ r.waiting
  unfolding blocks_in
  length_is_count = from-length n s r.oldest r.waiting

  -- an empty ring has no block waiting, whatever bytes lie in its store
  pub none_waiting : r.waiting ≡ 0 → blocks_in n r s ≡ []
  unfolding blocks_in blocks_from
  none_waiting h = rw h

  -- a drop takes the first block away and leaves the others
  pub drop_takes : blocks_in n (dropped_ring n r) s ≡ drop 1 (blocks_in n r s)
  unfolding blocks_in dropped_ring
  drop_takes = from-drop n s r.oldest r.waiting

  -- the oldest block is the first of those that wait, and those that a drop leaves stand behind it
  pub oldest_first : 0 < r.waiting → blocks_in n r s ≡ oldest_of n r s ∷ blocks_in n (dropped_ring n r) s
  unfolding oldest_of
  oldest_first h = headed (blocks_in n r s) (omega (arith, length_is_count)) ∙ ap (λ (q : List (List ℕ)). get_or (blocks_in n r s) 0 [] ∷ q) (sym drop_takes)

-- the oldest block is the one at the ring's place
pub oldest_at : (n : ℕ) (r : Ring) (s : List ℕ) → 0 < r.waiting → oldest_of n r s ≡ block_at s r.oldest
unfolding oldest_of blocks_in
oldest_at n r s h = from_first n s r.oldest r.waiting h

-- ---- a store of its exact size and a sound ring

module _ (n : ℕ) (r : Ring) (s : List ℕ) (ok : sound_ring n r ≡ true) (size : length s ≡ n * 256) where
  -- the oldest's place and each behind it are within the store
  stands : (k : ℕ) → k ≤ n → place_behind n r.oldest k * 256 + 256 ≤ length s
  stands k hk = omega (arith, place_in n r.oldest (bounds n r ok).0 k hk)

  -- the k-th block that waits is the one k places behind the oldest
  pub block_k : (k : ℕ) → k < r.waiting → get_or (blocks_in n r s) k [] ≡ block_at s (place_behind n r.oldest k)
  unfolding blocks_in
  block_k k h = let b = bounds n r ok in from_at n s r.oldest r.waiting k b.0 b.1 h

  -- each block that waits has 256 bytes
  pub each_whole : (k : ℕ) → k < r.waiting → length (get_or (blocks_in n r s) k []) ≡ 256
  each_whole k h =
      ap length (block_k k h) ∙ block_length s (place_behind n r.oldest k) (stands k (omega (arith, (bounds n r ok).1)))

  -- so has the oldest
  pub oldest_whole : 0 < r.waiting → length (oldest_of n r s) ≡ 256
  unfolding oldest_of
  oldest_whole h = each_whole 0 h

  -- stale bytes do not enter: another store of the size that agrees on the bytes of the waiting blocks has the same blocks waiting
  pub stale-apart : (t : List ℕ) → length t ≡ n * 256
      → ((k j : ℕ) → k < r.waiting → j < 256 → get_or s (place_behind n r.oldest k * 256 + j) 0 ≡ get_or t (place_behind n r.oldest k * 256 + j) 0)
      → blocks_in n r s ≡ blocks_in n r t
  unfolding blocks_in
  stale-apart t ht f =
      let b = bounds n r ok in
      from-same n s t r.oldest r.waiting b.0 b.1
      (λ k hk.
      let inside = stands k (omega (arith, b.1)) in
      block_same s t (place_behind n r.oldest k) inside (omega (arith, inside)) (λ j hj. f k j hk hj))

-- ---- rings

-- the empty ring is sound in any store that has a place
pub empty_sound : (n : ℕ) → 0 < n → sound_ring n empty_ring ≡ true
empty_sound n h = within n empty_ring h (omega arith)

-- a put counts one more
pub put_counts : (r : Ring) → (put_ring r).waiting ≡ r.waiting + 1
unfolding put_ring
put_counts r = refl

-- a drop counts one fewer
pub drop_counts : (n : ℕ) (r : Ring) → (dropped_ring n r).waiting ≡ r.waiting - 1
unfolding dropped_ring
drop_counts n r = refl

-- a put into a sound store that isn't full keeps it sound
pub put_sound : (n : ℕ) (r : Ring) → sound_ring n r ≡ true → r.waiting < n → sound_ring n (put_ring r) ≡ true
unfolding put_ring
put_sound n r ok room = within n (put_ring r) (bounds n r ok).0 (omega arith)

-- a drop keeps a sound ring sound
pub drop_sound : (n : ℕ) (r : Ring) → sound_ring n r ≡ true → sound_ring n (dropped_ring n r) ≡ true
unfolding dropped_ring
drop_sound n r ok =
    let b = bounds n r ok in
    within n (dropped_ring n r) (place_in n r.oldest b.0 1 (omega (arith, b.0))) (omega (arith, b.1))

-- ---- a put

-- a put keeps the store's length
pub put_length : (n : ℕ) (r : Ring) (s b : List ℕ) → length (put_store n r s b) ≡ length s
unfolding put_store
put_length n r s b = simp length-sets

-- a put changes no byte before its block ..
pub put_before : (n : ℕ) (r : Ring) (s b : List ℕ) (i : ℕ) → i < place_behind n r.oldest r.waiting * 256 → get_or (put_store n r s b) i 0 ≡ get_or s i 0
unfolding put_store
put_before n r s b i h = sets_before b s (place_behind n r.oldest r.waiting * 256) i h

-- .. and none behind it
pub put_behind : (n : ℕ) (r : Ring) (s b : List ℕ) (i : ℕ) → place_behind n r.oldest r.waiting * 256 + length b ≤ i → get_or (put_store n r s b) i 0 ≡ get_or s i 0
unfolding put_store
put_behind n r s b i h = sets_behind b s (place_behind n r.oldest r.waiting * 256) i h

-- a put adds its block behind the others
pub put_appends : (n : ℕ) (r : Ring) (s b : List ℕ) → sound_ring n r ≡ true → r.waiting < n → length s ≡ n * 256 → length b ≡ 256
    → blocks_in n (put_ring r) (put_store n r s b) ≡ blocks_in n r s ++ (b ∷ [])
unfolding blocks_in put_ring put_store
put_appends n r s b ok room size whole =
    let i = r.oldest in
    let m = r.waiting in
    let h : i < n = (bounds n r ok).0 in
    let at = place_behind n i m in
    let t = sets s (at * 256) b in
    let inside = stands n r s ok size in
    let kept = from-same n t s i m h (omega arith)
    (λ k hk. block_other s at b (inside m (omega arith)) whole (place_behind n i k) (inside k (omega arith)) (place-apart n i h k m hk room)) in
    ap (blocks_from n t i) (add-one m)
    ∙ from_more n t i m h room
    ∙ rw (kept, block_there s at b (inside m (omega arith)) whole)

-- ---- room freed is used again

-- after a drop from a full store, the next put goes where the dropped block stood
pub room_again : (n : ℕ) (r : Ring) → sound_ring n r ≡ true → r.waiting ≡ n
    → place_behind n (dropped_ring n r).oldest (dropped_ring n r).waiting ≡ r.oldest
unfolding dropped_ring
room_again n r ok full =
    let h : r.oldest < n = (bounds n r ok).0 in
    let past : r.waiting - 1 + 1 ≡ n = omega arith in
    place-next n r.oldest h (r.waiting - 1) (omega arith) ∙ ap (place_behind n r.oldest) past ∙ place-all n r.oldest h

-- a drop and then a put: the first block has gone, and the new one waits behind the others, however full the store was
pub freed : (n : ℕ) (r : Ring) (s b : List ℕ) → sound_ring n r ≡ true → 0 < r.waiting → length s ≡ n * 256 → length b ≡ 256
    → blocks_in n (put_ring (dropped_ring n r)) (put_store n (dropped_ring n r) s b) ≡ drop 1 (blocks_in n r s) ++ (b ∷ [])
freed n r s b ok some size whole =
    put_appends n (dropped_ring n r) s b (drop_sound n r ok) (omega (arith, drop_counts n r, (bounds n r ok).1)) size whole
    ∙ ap (λ (q : List (List ℕ)). q ++ (b ∷ [])) (drop_takes n r s)

-- ---- two stores of one capacity and ring in which the same blocks wait

module _ (n : ℕ) (r : Ring) (s t : List ℕ) (same : blocks_in n r s ≡ blocks_in n r t) where
  -- the oldest is the same in both
  pub twin_oldest : oldest_of n r s ≡ oldest_of n r t
  unfolding oldest_of
  twin_oldest = ap (λ (q : List (List ℕ)). get_or q 0 []) same

  -- after a drop the same blocks wait in both
  pub twin_drop : blocks_in n (dropped_ring n r) s ≡ blocks_in n (dropped_ring n r) t
  twin_drop = drop_takes n r s ∙ ap (drop 1) same ∙ sym (drop_takes n r t)

  -- after a put of one block the same blocks wait in both
  pub twin_put : (b : List ℕ) → sound_ring n r ≡ true → r.waiting < n → length s ≡ n * 256 → length t ≡ n * 256 → length b ≡ 256
      → blocks_in n (put_ring r) (put_store n r s b) ≡ blocks_in n (put_ring r) (put_store n r t b)
  twin_put b ok room hs ht hb =
      put_appends n r s b ok room hs hb ∙ ap (λ (q : List (List ℕ)). q ++ (b ∷ [])) same ∙ sym (put_appends n r t b ok room ht hb)
