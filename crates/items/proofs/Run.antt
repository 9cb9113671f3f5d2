-- A reader's loop: what is stored, counted and found when the rest of the text has been read too.
-- Assumes nothing.
use Prim.Native.Nat.{ℕ, zero, suc, ◌+◌, ◌*◌, ◌/◌, ◌%◌, ◌≤◌, ◌<◌}
use native.Mathlib.Omega.{arith}
use native.Mathlib.Numerals.{add-one}
use mathlib.Core.Path.{◌≡◌, refl, sym, ap, ◌∙◌}
use mathlib.Core.Bool.{Bool, true, false}
use mathlib.Core.List.{List, [], ◌∷◌}
use lib.Dec.{eqb}
use borrow.Author.Tests.{eqb-true, eqb-false}
use Rattle.rows.proofs.Bool.{split}
use lib.ListN.{length, take, drop, get_or, set, length-drop, drop_of_length-le}
use lib.Seq.{sets, drop-drop, length-take-le}
use Rattle.std.proofs.Math.Nat.{div-mul-le_self, suc-mul, zero-mul, mul-le-mul_right, mod-lt}
use Rattle.std.proofs.Common.{take-append-drop}
use Rattle.std.proofs.lemmas.Nat.{div-add-mod'}
use Rattle.std.specs.Prelude.{Option, Some, None}
use Rattle.std.specs.Bool.{then_some}
use Rattle.std.specs.Simd.{first_chunks}
use Rattle.items.specs.Text.{ItemsRead, items_read, behind_item, items_of, byte_item, bytes_in}
use Rattle.items.proofs.Lists.{next}
use Rattle.items.specs.Items.{ReadsItems}

-- the lent memory, the count, and whether the text is whole
pub record Ended (A : Type 0) : Type 0 where
  pub memory : List A
  pub count : ℕ
  pub whole : Bool

-- n values are stored in l, and r is what is read behind them
abbrev pub ended : {A : Type 0} → List A → ℕ → ItemsRead A → Ended A
ended l n r = record { memory = sets l n r.values; count = n + length r.values; whole = r.whole }

-- one value more
pub one_more : {A : Type 0} (l : List A) (n : ℕ) (v : A) (r : ItemsRead A) → ended (set l n v) (n + 1) r ≡ ended l n (behind_item (Some v) r)
one_more l n v r =
    let e : n + 1 + length r.values ≡ n + suc (length r.values) = omega arith in
    rw (e, add-one)

-- where nothing is left to read, the memory is that of the whole text, and the answer too
module _ {A : Type 0} (l0 l : List A) (n : ℕ) (r R : ItemsRead A) (e : ended l n r ≡ ended l0 0 R) where
  memory_is : r.values ≡ [] → l ≡ sets l0 0 R.values
  memory_is none = ap (sets l n) (sym none) ∙ ap (λ (x : Ended A). x.memory) e

  good_end : r ≡ items_read [] true → (Some n ≡ items_of R) × (l ≡ sets l0 0 R.values)
  unfolding items_of
  good_end d =
      let w : R.whole ≡ true = sym (ap (λ (x : Ended A). x.whole) e) ∙ ap (λ (x : ItemsRead A). x.whole) d in
      let m : n + length r.values ≡ 0 + length R.values = ap (λ (x : Ended A). x.count) e in
      let z : length r.values ≡ 0 = ap (λ (x : ItemsRead A). length x.values) d in
      let k : n ≡ length R.values = omega arith in
      (rw (w, k), memory_is (ap (λ (x : ItemsRead A). x.values) d))

  pub bad_end : r ≡ items_read [] false → (None ≡ items_of R) × (l ≡ sets l0 0 R.values)
  unfolding items_of
  bad_end d =
      let w : R.whole ≡ false = sym (ap (λ (x : Ended A). x.whole) e) ∙ ap (λ (x : ItemsRead A). x.whole) d in
      (rw w, memory_is (ap (λ (x : ItemsRead A). x.values) d))

-- a part of a text that is cut into parts of n characters
pub part_is : (n k i : ℕ) (t d : List ℕ) → i < k → get_or (first_chunks n k t) i d ≡ take n (drop (i * n) t)
part_is n zero i t d h = absurd (omega arith)
part_is n (suc k) zero t d h = ap (λ (j : ℕ). take n (drop j t)) (sym (zero-mul n))
part_is n (suc k) (suc i) t d h =
    let e : n + i * n ≡ suc i * n = omega arith in
    part_is n k i (drop n t) d (omega arith) ∙ rw (drop-drop (i * n) n t, e)

module _ {A : Type 0} (n : ℕ) (one : List ℕ → Option A) (text : List ℕ → ItemsRead A) (laws : ReadsItems n one text) (t : List ℕ) (i : ℕ) where
  within : i < length t / n → i * n + n ≤ length t
  within h = omega (arith, div-mul-le_self (length t) n, suc-mul i n, mul-le-mul_right {m = suc i} {n = length t / n} n (omega arith))

  item_on : i < length t / n → text (drop (i * n) t) ≡ behind_item (one (take n (drop (i * n) t))) (text (drop ((i + 1) * n) t))
  item_on h =
      let rest = drop (i * n) t in
      let long : length (take n rest) ≡ n = length-take-le n rest (omega (arith, within h, length-drop (i * n) t)) in
      let next : i * n + n ≡ (i + 1) * n = omega (arith, suc-mul i n, ap (λ (k : ℕ). k * n) (add-one i)) in
      ap text (sym (take-append-drop n rest)) ∙ laws.an_item (take n rest) (drop n rest) long
      ∙ ap (λ (l : List ℕ). behind_item (one (take n rest)) (text l)) (drop-drop n (i * n) t ∙ ap (λ (k : ℕ). drop k t) next)

  -- the next part
  pub part_on : (parts : List (List ℕ)) (p : List ℕ) → parts ≡ first_chunks n (length t / n) t → length parts ≡ length t / n → i < length parts → p ≡ get_or parts i p
      → text (drop (i * n) t) ≡ behind_item (one p) (text (drop ((i + 1) * n) t))
  part_on parts p e k h is =
      let this : p ≡ take n (drop (i * n) t) = is ∙ ap (λ (l : List (List ℕ)). get_or l i p) e ∙ part_is n (length t / n) i t p (omega arith) in
      item_on (omega arith) ∙ ap (λ (l : List ℕ). behind_item (one l) (text (drop ((i + 1) * n) t))) (sym this)

  -- behind the last one the text ends, or has too few characters
  items_end : i ≡ length t / n → length t % n ≡ 0 → text (drop (i * n) t) ≡ items_read [] true
  items_end h e =
      ap text (drop_of_length-le t {i = i * n} (omega (arith, div-add-mod' (length t) n, ap (λ (k : ℕ). k * n) h))) ∙ laws.at_end

  items_cut : i ≡ length t / n → (length t % n ≡ 0 → ⊥) → text (drop (i * n) t) ≡ items_read [] false
  items_cut h e =
      let left : length (drop (i * n) t) ≡ length t % n = omega (arith, length-drop (i * n) t, div-add-mod' (length t) n, ap (λ (k : ℕ). k * n) h) in
      laws.too_few (drop (i * n) t) (omega arith) (omega (arith, mod-lt (length t) laws.some))

  pub all_read : (l0 l : List A) (j m : ℕ) → i ≡ j → j ≡ length t / n → m ≡ length t % n → ended l i (text (drop (i * n) t)) ≡ ended l0 0 (text t)
      → (then_some (eqb m 0) j ≡ items_of (text t)) × (l ≡ sets l0 0 (text t).values)
  all_read l0 l j m h k w e =
      split (eqb m 0)
      (λ y.
      let none : m ≡ 0 = eqb-true m 0 y in
      let end = good_end l0 l i (text (drop (i * n) t)) (text t) e (items_end (omega arith) (omega arith)) in
      rw y (ap (λ (x : ℕ). Some x) (sym h) ∙ end.0, end.1))
      (λ y.
      let some : m ≡ 0 → ⊥ = eqb-false m 0 y in
      let end = bad_end l0 l i (text (drop (i * n) t)) (text t) e (items_cut (omega arith) (omega arith)) in
      rw y end)

-- the characters of a byte's item, and what is read behind them
pub byte_on : (t : List ℕ) (i : ℕ) → i + 3 ≤ length t
    → bytes_in (drop i t) ≡ behind_item (byte_item (get_or t i 0) (get_or t (i + 1) 0) (get_or t (i + 2) 0)) (bytes_in (drop (i + 3) t))
unfolding bytes_in
byte_on t i h =
    let three : drop i t ≡ get_or t i 0 ∷ get_or t (i + 1) 0 ∷ get_or t (i + 2) 0 ∷ drop (i + 3) t =
    next t i (i + 1) (omega arith) refl
    ∙ ap (λ (l : List ℕ). get_or t i 0 ∷ l) (next t (i + 1) (i + 2) (omega arith) (omega arith))
    ∙ ap (λ (l : List ℕ). get_or t i 0 ∷ get_or t (i + 1) 0 ∷ l) (next t (i + 2) (i + 3) (omega arith) (omega arith)) in
    rw three

-- at the end nothing is left
pub bytes_end : (t : List ℕ) (i : ℕ) → i ≡ length t → bytes_in (drop i t) ≡ items_read [] true
unfolding bytes_in
bytes_end t i e = rw (drop_of_length-le t {i = i} (omega arith))
