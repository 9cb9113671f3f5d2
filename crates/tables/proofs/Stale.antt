-- What lies in a load's words behind those that have come shows nowhere.
use Prim.Native.Nat.{ℕ, zero, suc, ◌+◌, ◌≤◌, ◌<◌}
use native.Mathlib.Nat.{zero-add, suc-add}
use native.Mathlib.Numerals.{add-one}
use native.Mathlib.Omega.{arith}
use mathlib.Core.Path.{◌≡◌, refl, sym, ap, ◌∙◌}
use mathlib.Core.Bool.{true}
use mathlib.Core.List.{List, [], ◌∷◌, ◌++◌}
use lib.Dec.{ltb}
use lib.ListN.{length, get_or, set, take, drop, length-set}
use lib.Seq.{take_all, take-nil, drop-nil, take-suc-set, get_or-take}
use borrow.Author.Tests.{ltb-true, ltb-false}
use Rattle.tables.specs.declared.Header.{Header}
use Rattle.tables.specs.declared.Words.{Words}
use Rattle.tables.specs.declared.Transfer.{Transfer}
use Rattle.tables.specs.declared.Transfer.TheVariants.{Idle, Address, Load, Read}
use Rattle.tables.specs.Tables.{Three, words_of}
use Rattle.tables.specs.Port.{desk, Tabled, tabled, data_count, wrong_way, load_right, stored_in, load_judged, load_of, word_taken, data_in_of}
use Rattle.tables.specs.Bounds.{sound_transfer, sound_words}
use Rattle.rows.proofs.Bool.{split}
use Rattle.tables.proofs.Limits.{sound_transfer_lem, LoadIn, load_in_lem}

-- how many words an open load has gathered
abbrev pub gathered : Transfer → ℕ
gathered Idle = 0
gathered Address = 0
gathered (Load h k) = k
gathered (Read h k at) = 0

-- one word more, put behind k words that are equal
take_set : (k x : ℕ) (a b : List ℕ) → length a ≡ length b → take k a ≡ take k b → take (suc k) (set a k x) ≡ take (suc k) (set b k x)
take_set k x a b long e =
    split (ltb k (length a))
    (λ i.
    let inside : k < length a = ltb-true _ _ i in
    take-suc-set a k x inside ∙ ap (λ (l : List ℕ). l ++ (x ∷ [])) e ∙ sym (take-suc-set b k x (omega arith)))
    (λ i.
    let out : length a ≤ k = ltb-false _ _ i in
    let same : a ≡ b = sym (take_all k a out) ∙ e ∙ take_all k b (omega arith) in
    rw same)

-- a part of a list is one of its first words
take_drop : (m n : ℕ) (l : List ℕ) → take n (drop m l) ≡ drop m (take (m + n) l)
take_drop zero n l = rw zero-add
take_drop (suc m) n [] = simp (take-nil, drop-nil)
take_drop (suc m) n (x ∷ l) = rw suc-add (take_drop m n l)

-- what is judged and stored of a load of N words are its first N words
module _ (h : Header) (a b : List ℕ) (least : 4 ≤ h.n) (e : take h.n a ≡ take h.n b) where
  word_same : (i : ℕ) → i < h.n → get_or a i 0 ≡ get_or b i 0
  word_same i near = sym (get_or-take h.n a i 0 near) ∙ ap (λ (l : List ℕ). get_or l i 0) e ∙ get_or-take h.n b i 0 near

  pub right_same : load_right h a ≡ load_right h b
  unfolding load_right
  right_same = rw (word_same 0 (omega arith), word_same 1 (omega arith), word_same 2 (omega arith))

  pub stored_same : (table : List ℕ) → stored_in h a table ≡ stored_in h b table
  unfolding stored_in
  stored_same table =
      let count : 3 + data_count h ≡ h.n = omega arith in
      rw (word_same 1 (omega arith), take_drop 3 (data_count h) a, take_drop 3 (data_count h) b, count, e)

-- the same but for words of the load that have not come
pub record Unseen (y d : Tabled) : Type 0 where
  pub words : y.words ≡ d.words
  pub tables : y.desk.tables ≡ d.desk.tables
  pub long : length y.desk.load ≡ length d.desk.load
  pub first : take (gathered d.words.transfer) y.desk.load ≡ take (gathered d.words.transfer) d.desk.load

module _ (x : ℕ) (w : Words) (s : Three) (a b : List ℕ) (long : length a ≡ length b) where
  load_unseen : (h : Header) (k : ℕ) → LoadIn h k → take k a ≡ take k b
      → Unseen (load_of h k x (tabled w (desk s a))) (load_of h k x (tabled w (desk s b)))
  unfolding load_of load_judged
  load_unseen h k i e =
      let more : take (suc k) (set a k x) ≡ take (suc k) (set b k x) = take_set k x a b long e in
      let lengths : length (set a k x) ≡ length (set b k x) = length-set a k x ∙ long ∙ sym (length-set b k x) in
      split (ltb (k + 1) h.n)
      (λ f. rw f (record { words = refl; tables = refl; long = lengths; first = rw (add-one k) more }))
      (λ f.
      let last : h.n ≡ suc k = omega (arith, ltb-false (k + 1) h.n f, i.along) in
      let all : take h.n (set a k x) ≡ take h.n (set b k x) = rw last more in
      let least = i.allowed.least in
      rw (f, right_same h (set a k x) (set b k x) least all, stored_same h (set a k x) (set b k x) least all (words_of h.table s))
      (split (load_right h (set b k x))
      (λ r. rw r (record { words = refl; tables = refl; long = lengths; first = refl }))
      (λ r. rw r (record { words = refl; tables = refl; long = lengths; first = refl }))))

  taken_unseen : (u : Transfer) → sound_transfer u ≡ true → take (gathered u) a ≡ take (gathered u) b
      → Unseen (word_taken u x (tabled w (desk s a))) (word_taken u x (tabled w (desk s b)))
  unfolding word_taken wrong_way
  taken_unseen Idle i e = record { words = refl; tables = refl; long = long; first = refl }
  taken_unseen Address i e = record { words = refl; tables = refl; long = long; first = refl }
  taken_unseen (Load h k) i e = load_unseen h k (load_in_lem h k i) e
  taken_unseen (Read h k at) i e = record { words = refl; tables = refl; long = long; first = refl }

  -- a data word written: equal states and tables, and of the words of a load the same have come
  pub data_in_unseen : sound_words w ≡ true → take (gathered w.transfer) a ≡ take (gathered w.transfer) b
      → Unseen (data_in_of x (tabled w (desk s a))) (data_in_of x (tabled w (desk s b)))
  unfolding data_in_of
  data_in_unseen i e = taken_unseen w.transfer (sound_transfer_lem w i) e
