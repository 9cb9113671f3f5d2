-- A store of 256-byte blocks: what waits in it, and what a put and a drop make of it. Said once, for any capacity n.
use Rattle.std.specs.Prelude.{ℕ, zero, suc, ◌+◌, ◌-◌, ◌*◌, ◌%◌, Bool, ◌&&◌, List, [], ◌∷◌, length, take, drop, get_or, ltb, leb, eqb}
use Rattle.std.proofs.lemmas.List.Edits.{sets}
use Rattle.blocks.specs.declared.Store.{Store}
use Rattle.blocks.specs.declared.Store.TheVariants.{Priority, Ordinary}
use Rattle.blocks.specs.declared.Ring.{Ring}

-- "priority store 16 blocks, ordinary store 128 blocks"
abbrev pub capacity_of : Store → ℕ
capacity_of Priority = 16
capacity_of Ordinary = 128

-- a store that is lent has the bytes of its blocks
unfoldable pub store_sized : Store → List ℕ → Bool
store_sized s l = eqb (length l) (capacity_of s * 256)

-- "whichever store it came from", of the two that are lent
abbrev pub store_of : Store → List ℕ → List ℕ → List ℕ
store_of Priority priority ordinary = priority
store_of Ordinary priority ordinary = ordinary

-- "place of the oldest block under its capacity, waiting at most its capacity"
unfoldable pub sound_ring : ℕ → Ring → Bool
sound_ring n r = ltb r.oldest n && leb r.waiting n

-- "stores empty", with the place at 0
abbrev pub empty_ring : Ring
empty_ring = record { oldest = 0; waiting = 0 }

-- the place k places behind place i: behind the last place comes the first, so that "room freed is used again"
unfoldable pub place_behind : ℕ → ℕ → ℕ → ℕ
place_behind n i k = (i + k) % n

-- the block at a place: "of 256 bytes"
unfoldable pub block_at : List ℕ → ℕ → List ℕ
block_at s i = take 256 (drop (i * 256) s)

-- as many blocks as asked, one behind the other, from place i on
unfoldable pub blocks_from : ℕ → List ℕ → ℕ → ℕ → List (List ℕ)
blocks_from n s i zero = []
blocks_from n s i (suc k) = block_at s i ∷ blocks_from n s (place_behind n i 1) k

-- the blocks that wait, from the oldest on
unfoldable pub blocks_in : ℕ → Ring → List ℕ → List (List ℕ)
blocks_in n r s = blocks_from n s r.oldest r.waiting

-- "the oldest 256-byte block": the first of those that wait
unfoldable pub oldest_of : ℕ → Ring → List ℕ → List ℕ
oldest_of n r s = get_or (blocks_in n r s) 0 []

-- "put adds a block behind the others": one more waits ..
unfoldable pub put_ring : Ring → Ring
put_ring r = record { oldest = r.oldest; waiting = r.waiting + 1 }

-- .. and its bytes stand at the place behind the others
unfoldable pub put_store : ℕ → Ring → List ℕ → List ℕ → List ℕ
put_store n r s b = sets s (place_behind n r.oldest r.waiting * 256) b

-- "the oldest block of that store is dropped": the next place is the oldest's, and one fewer waits
unfoldable pub dropped_ring : ℕ → Ring → Ring
dropped_ring n r = record { oldest = place_behind n r.oldest 1; waiting = r.waiting - 1 }
