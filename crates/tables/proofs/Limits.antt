-- The bounds of the state as facts.
use mathlib.Core.Path.{◌≡◌}
use mathlib.Core.Bool.{true, ◌&&◌}
use Prim.Native.Nat.{ℕ, ◌+◌, ◌≤◌, ◌<◌}
use borrow.Author.Tests.{ltb-true, leb-true, lt-ltb, le-leb}
use lib.Dec.{ltb, leb}
use Rattle.orders.specs.declared.Table.TheVariants.{Five, Six, Seven}
use Rattle.tables.specs.declared.Header.{Header}
use Rattle.tables.specs.declared.Places.{Places}
use Rattle.tables.specs.declared.Words.{Words}
use Rattle.tables.specs.declared.Transfer.TheVariants.{Load, Read}
use Rattle.tables.specs.Tables.{table_size}
use Rattle.orders.specs.Command.{length_allowed}
use Rattle.tables.specs.Port.{data_count, fits}
use Rattle.tables.specs.Bounds.{sound_places, sound_transfer, sound_words}
use Rattle.rows.proofs.Bool.{and_left, and_right, and_both}
use Rattle.orders.proofs.Lengths.{Allowed, allowed_has, has_allowed}

pub sound_places_lem : (w : Words) → sound_words w ≡ true → sound_places w.places ≡ true
unfolding sound_words
sound_places_lem w h = and_left (sound_places w.places) (sound_transfer w.transfer) h

pub sound_transfer_lem : (w : Words) → sound_words w ≡ true → sound_transfer w.transfer ≡ true
unfolding sound_words
sound_transfer_lem w h = and_right (sound_places w.places) (sound_transfer w.transfer) h

pub both_sound : (w : Words) → sound_places w.places ≡ true → sound_transfer w.transfer ≡ true → sound_words w ≡ true
unfolding sound_words
both_sound w p t = and_both p t

-- each read place at most its table's size
pub record PlacesIn (p : Places) : Type 0 where
  pub five : p.five ≤ table_size Five
  pub six : p.six ≤ table_size Six
  pub seven : p.seven ≤ table_size Seven

pub places_in : (p : Places) → sound_places p ≡ true → PlacesIn p
unfolding sound_places
places_in p e =
    let a = leb p.five 64 in
    let b = leb p.six 128 in
    let d = leb p.seven 64 in
    let rest = and_right a (b && d) e in
    record { five = leb-true _ _ (and_left a (b && d) e); six = leb-true _ _ (and_left b d rest); seven = leb-true _ _ (and_right b d rest) }

pub in_places : (p : Places) → PlacesIn p → sound_places p ≡ true
unfolding sound_places
in_places p h = and_both (le-leb _ _ h.five) (and_both (le-leb _ _ h.six) (le-leb _ _ h.seven))

-- an open load: its length allowed, and 0 to N-1 words along
pub record LoadIn (h : Header) (k : ℕ) : Type 0 where
  pub allowed : Allowed h.n
  pub along : k < h.n

pub load_in_lem : (h : Header) (k : ℕ) → sound_transfer (Load h k) ≡ true → LoadIn h k
unfolding sound_transfer
load_in_lem h k e =
    let a = length_allowed h.n in
    let b = ltb k h.n in
    record { allowed = allowed_has h.n (and_left a b e); along = ltb-true _ _ (and_right a b e) }

pub in_load : (h : Header) (k : ℕ) → LoadIn h k → sound_transfer (Load h k) ≡ true
unfolding sound_transfer
in_load h k b = and_both (has_allowed h.n b.allowed) (lt-ltb _ _ b.along)

-- an open read: the same, and within its table
pub record ReadIn (h : Header) (k at : ℕ) : Type 0 where
  pub load : LoadIn h k
  pub end : at + data_count h ≤ table_size h.table

pub read_in_lem : (h : Header) (k at : ℕ) → sound_transfer (Read h k at) ≡ true → ReadIn h k at
unfolding sound_transfer
read_in_lem h k at e =
    let a = length_allowed h.n in
    let b = ltb k h.n in
    let d = fits h.table at (data_count h) in
    let rest = and_right a (b && d) e in
    record {
      load = record { allowed = allowed_has h.n (and_left a (b && d) e); along = ltb-true _ _ (and_left b d rest) };
      end = leb-true _ _ (and_right b d rest);
    }

pub in_read : (h : Header) (k at : ℕ) → ReadIn h k at → sound_transfer (Read h k at) ≡ true
unfolding sound_transfer
in_read h k at b =
    and_both (has_allowed h.n b.load.allowed) (and_both (lt-ltb _ _ b.load.along) (le-leb _ _ b.end))

-- the same of an open transfer in a state within its bounds
pub load_open : (w : Words) (h : Header) (k : ℕ) → sound_words w ≡ true → w.transfer ≡ Load h k → (h.n ≤ 64) × (k < h.n)
load_open w h k s e =
    let b = load_in_lem h k (rw e at (sound_transfer_lem w s)) in
    (b.allowed.most, b.along)

pub read_open : (w : Words) (h : Header) (k at : ℕ) → sound_words w ≡ true → w.transfer ≡ Read h k at → (k < h.n) × (at + data_count h ≤ table_size h.table)
read_open w h k at s e =
    let b = read_in_lem h k at (rw e at (sound_transfer_lem w s)) in
    (b.load.along, b.end)
