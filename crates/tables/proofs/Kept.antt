-- Whatever comes, the state stays within its bounds.
use mathlib.Core.Path.{◌≡◌, refl}
use mathlib.Core.Bool.{Bool, true, not}
use Prim.Native.Nat.{ℕ, ◌+◌, ◌≤◌}
use native.Mathlib.Omega.{arith}
use borrow.Author.Tests.{leb-true, ltb-true}
use lib.Dec.{ltb}
use lib.ListN.{set}
use Rattle.orders.specs.declared.Table.{Table}
use Rattle.orders.specs.declared.Table.TheVariants.{Five, Six, Seven}
use Rattle.tables.specs.declared.Header.{Header}
use Rattle.tables.specs.declared.Places.{Places}
use Rattle.tables.specs.declared.Words.{Words}
use Rattle.std.specs.Prelude.{Option, Some, None, option_map}
use Rattle.orders.specs.declared.Parts.{Parts}
use Rattle.orders.specs.declared.Order.{Order}
use Rattle.orders.specs.declared.Order.TheVariants.{Stop, Restart, Next, Writing, Reading}
use Rattle.tables.specs.declared.Transfer.{Transfer}
use Rattle.tables.specs.declared.Transfer.TheVariants.{Idle, Address, Load, Read}
use Rattle.tables.specs.Tables.{Three, table_size, with_read_place}
use Rattle.orders.specs.Command.{length_allowed, writes, transfer_asked, table_numbered, parts_of, order_of, order_heard}
use Rattle.tables.specs.Port.{Tabled, header, data_count, fits, start_words, close_of, wrong_way, read_opened_at, read_opened, restarted, order_obeyed, command_of, load_right, load_judged, load_of, word_taken, data_in_of, read_next, word_given, data_out_of}
use Rattle.tables.specs.Bounds.{sound_places, sound_transfer, sound_words}
use Rattle.rows.proofs.Bool.{by-test}
use Rattle.orders.proofs.Lengths.{allowed_has}
use Rattle.tables.proofs.Limits.{sound_places_lem, sound_transfer_lem, both_sound, PlacesIn, places_in, in_places, LoadIn, load_in_lem, in_load, ReadIn, read_in_lem, in_read}

-- ---- orders

-- an order to load or read has its N 4 to 64
abbrev Able : Option Order → Type 0
Able None = Unit {0}
Able (Some Stop) = Unit {0}
Able (Some Restart) = Unit {0}
Able (Some Next) = Unit {0}
Able (Some (Writing t n)) = length_allowed n ≡ true
Able (Some (Reading t n)) = length_allowed n ≡ true

asked_able : (t : Table) (p : Parts) → length_allowed p.n ≡ true → Able (Some (transfer_asked t p))
asked_able t p h = by-test (λ (o : Order). Able (Some o)) p.reads (λ e. h) (λ e. h)

table_able : (p : Parts) → length_allowed p.n ≡ true → (o : Option Table) → Able (option_map (λ (t : Table). transfer_asked t p) o)
table_able p h None = tt
table_able p h (Some t) = asked_able t p h

order_able : (p : Parts) → Able (order_of p)
unfolding order_of
order_able p =
    by-test Able (not p.odd) (λ e. tt)
    (λ e. by-test Able (writes p 0 0) (λ f. tt)
    (λ f. by-test Able (writes p 0 1) (λ g. tt)
    (λ g. by-test Able (writes p 1 1) (λ h. tt)
    (λ h. by-test Able (length_allowed p.n)
    (λ a. table_able p a (table_numbered p.command))
    (λ a. tt)))))

heard_able : (on : Bool) (word : ℕ) → Able (order_heard on word)
unfolding order_heard
heard_able on word = by-test Able on (λ e. order_able (parts_of word)) (λ e. tt)

-- ---- closing

Sound : Words → Type 0
Sound w = sound_words w ≡ true

pub start_sound : sound_words start_words ≡ true
unfolding sound_words sound_places sound_transfer start_words
start_sound = refl

pub close_sound : (w : Words) → sound_words w ≡ true → sound_words (close_of w) ≡ true
unfolding close_of sound_transfer
close_sound w h = both_sound (close_of w) (sound_places_lem w h) refl

wrong_sound : (w : Words) → sound_words w ≡ true → sound_words (wrong_way w) ≡ true
unfolding wrong_way sound_transfer
wrong_sound w h = both_sound (wrong_way w) (sound_places_lem w h) refl

-- ---- a command word

-- a place that is moved within its table
moved_in : (t : Table) (k : ℕ) (p : Places) → PlacesIn p → k ≤ table_size t → PlacesIn (with_read_place t k p)
moved_in Five k p h l = record { five = l; six = h.six; seven = h.seven }
moved_in Six k p h l = record { five = h.five; six = l; seven = h.seven }
moved_in Seven k p h l = record { five = h.five; six = h.six; seven = l }

-- a transfer of an allowed N at its start
begun : (h : Header) → length_allowed h.n ≡ true → LoadIn h 0
begun h a = let b = allowed_has h.n a in record { allowed = b; along = omega arith }

read_sound : (h : Header) (at : ℕ) (w : Words) → length_allowed h.n ≡ true → sound_words w ≡ true → sound_words (read_opened_at h at w) ≡ true
unfolding read_opened_at Sound
read_sound h at w a s =
    by-test Sound (fits h.table at (data_count h))
    (λ e.
    let end = leb-true (at + data_count h) (table_size h.table) e in
    both_sound _ (in_places _ (moved_in h.table _ w.places (places_in _ (sound_places_lem w s)) end))
    (in_read h 0 at (record { load = begun h a; end = end })))
    (λ e. both_sound _ (sound_places_lem w s) (sound_transfer_lem w s))

obeyed_sound : (o : Option Order) (w : Words) → Able o → sound_words w ≡ true → sound_words (order_obeyed o w) ≡ true
unfolding order_obeyed read_opened restarted sound_transfer sound_places
obeyed_sound None w a s = both_sound _ (sound_places_lem w s) (sound_transfer_lem w s)
obeyed_sound (Some Stop) w a s = s
obeyed_sound (Some Restart) w a s = both_sound _ refl (sound_transfer_lem w s)
obeyed_sound (Some Next) w a s = both_sound _ (sound_places_lem w s) refl
obeyed_sound (Some (Writing t n)) w a s = both_sound _ (sound_places_lem w s) (in_load (header t n) 0 (begun (header t n) a))
obeyed_sound (Some (Reading t n)) w a s = read_sound (header t n) _ w a s

pub command_sound : (on : Bool) (word : ℕ) (s : Tabled) → sound_words s.words ≡ true → sound_words (command_of on word s).words ≡ true
unfolding command_of
command_sound on word s h = obeyed_sound (order_heard on word) (close_of s.words) (heard_able on word) (close_sound s.words h)

-- ---- a data word written

TabledSound : Tabled → Type 0
TabledSound s = sound_words s.words ≡ true

load_sound : (h : Header) (k x : ℕ) (s : Tabled) → sound_words s.words ≡ true → LoadIn h k → sound_words (load_of h k x s).words ≡ true
unfolding load_of load_judged sound_transfer TabledSound
load_sound h k x s i b =
    by-test TabledSound (ltb (k + 1) h.n)
    (λ e. both_sound _ (sound_places_lem s.words i) (in_load h (k + 1) (record { allowed = b.allowed; along = ltb-true _ _ e })))
    (λ e. by-test TabledSound (load_right h (set s.desk.load k x))
    (λ f. both_sound _ (sound_places_lem s.words i) refl)
    (λ f. both_sound _ (sound_places_lem s.words i) refl))

taken_sound : (t : Transfer) (x : ℕ) (s : Tabled) → sound_words s.words ≡ true → sound_transfer t ≡ true → sound_words (word_taken t x s).words ≡ true
unfolding word_taken sound_transfer
taken_sound Idle x s i e = wrong_sound s.words i
taken_sound Address x s i e = both_sound _ (sound_places_lem s.words i) refl
taken_sound (Load h k) x s i e = load_sound h k x s i (load_in_lem h k e)
taken_sound (Read h k at) x s i e = wrong_sound s.words i

pub data_in_sound : (x : ℕ) (s : Tabled) → sound_words s.words ≡ true → sound_words (data_in_of x s).words ≡ true
unfolding data_in_of
data_in_sound x s h = taken_sound s.words.transfer x s h (sound_transfer_lem s.words h)

-- ---- a data word read

TransferSound : Transfer → Type 0
TransferSound t = sound_transfer t ≡ true

next_sound : (h : Header) (k at : ℕ) → ReadIn h k at → sound_transfer (read_next h k at) ≡ true
unfolding read_next sound_transfer TransferSound
next_sound h k at b =
    by-test TransferSound (ltb (k + 1) h.n)
    (λ e. in_read h (k + 1) at (record { load = record { allowed = b.load.allowed; along = ltb-true _ _ e }; end = b.end }))
    (λ e. refl)

given_sound : (t : Transfer) (w : Words) (s : Three) → sound_words w ≡ true → sound_transfer t ≡ true → sound_words (word_given t w s).words ≡ true
unfolding word_given sound_transfer
given_sound Idle w s i e = wrong_sound w i
given_sound Address w s i e = wrong_sound w i
given_sound (Load h k) w s i e = wrong_sound w i
given_sound (Read h k at) w s i e = both_sound _ (sound_places_lem w i) (next_sound h k at (read_in_lem h k at e))

pub data_out_sound : (w : Words) (s : Three) → sound_words w ≡ true → sound_words (data_out_of w s).words ≡ true
unfolding data_out_of
data_out_sound w s h = given_sound w.transfer w s h (sound_transfer_lem w h)
