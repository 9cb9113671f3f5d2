-- Digits, from the lowest on.
-- Assumes nothing.
use Prim.Native.Nat.{ℕ, zero, suc, ◌+◌, ◌-◌, ◌*◌, ◌/◌, ◌%◌, ◌^◌, ◌≤◌, ◌<◌}
use native.Mathlib.Omega.{arith}
use native.Mathlib.Nat.{pow-succ'}
use native.Mathlib.Numerals.{add-one}
use mathlib.Core.Path.{◌≡◌, sym, ap, ◌∙◌}
use mathlib.Core.List.{List, [], ◌∷◌, ◌++◌, append_assoc}
use lib.ListN.{length, take, drop, set, length-append, length-drop, length-set}
use lib.Seq.{set_split, drop_at, take_all, length-take-le}
use lib.Dec.{ltb}
use borrow.Author.Tests.{lt-ltb, le-ltb}
use Rattle.rows.proofs.Bool.{split}
use Rattle.items.specs.Printed.{digits_of, decimal}

set_drop : (l : List ℕ) (i v : ℕ) → i < length l → drop i (set l i v) ≡ v ∷ drop (suc i) l
set_drop l i v h =
    ap (drop i) (set_split l i v h) ∙ drop_at (take i l) (v ∷ drop (suc i) l) i (length-take-le i l (omega arith))

-- one digit more, where more are left
module _ (i r : ℕ) (h : r < 10 ^ (i + 1)) (k : 10 ≤ r) where
  pub fewer : (1 ≤ i) × (r / 10 < 10 ^ (i - 1 + 1))
  fewer = on i h
    where
      on : (i : ℕ) → r < 10 ^ (i + 1) → (1 ≤ i) × (r / 10 < 10 ^ (i - 1 + 1))
      on zero h = absurd (omega arith)
      on (suc j) h =
          let e : suc j - 1 + 1 ≡ suc j = omega arith in
          let s : 10 ^ (suc j + 1) ≡ 10 * 10 ^ suc j = rw (add-one (suc j)) (pow-succ' 10 (suc j)) in
          (omega arith, rw e (omega (arith, s)))

pub digit_in : (i r : ℕ) (t : List ℕ) → 1 ≤ i → 10 ≤ r → i < length t
    → digits_of (i - 1 + 1) (r / 10) ++ drop (i - 1 + 1) (set t i (48 + r % 10)) ≡ digits_of (i + 1) r ++ drop (i + 1) t
unfolding digits_of
digit_in i r t h k l =
    let e : i - 1 + 1 ≡ i = omega arith in
    let d = 48 + r % 10 in
    rw (e, set_drop t i d l, add-one i, le-ltb r 10 k) (sym (append_assoc (digits_of i (r / 10)) (d ∷ []) (drop (suc i) t)))

-- the last one
digit_last : (i r : ℕ) (t : List ℕ) → r < 10 → i < length t → drop i (set t i (48 + r)) ≡ digits_of (i + 1) r ++ drop (i + 1) t
unfolding digits_of
digit_last i r t k l = rw (set_drop t i (48 + r) l, add-one i, lt-ltb r 10 k)

-- and then all of them stand there
pub the_text : (i r n : ℕ) (t : List ℕ) → r < 10 → i ≤ 19 → length t ≡ 20 → digits_of (i + 1) r ++ drop (i + 1) t ≡ decimal n
    → take (20 - i) (drop i (set t i (48 + r))) ≡ decimal n
the_text i r n t k h l e =
    take_all (20 - i) (drop i (set t i (48 + r))) (omega (arith, length-drop i (set t i (48 + r)), length-set t i (48 + r)))
    ∙ digit_last i r t k (omega arith)
    ∙ e

-- twenty at the most
digits_most : (k n : ℕ) → length (digits_of k n) ≤ k
unfolding digits_of
digits_most zero n = omega arith
digits_most (suc k) n =
    split (ltb n 10) (λ e. rw e (omega arith))
    (λ e. rw e (omega (arith, length-append (digits_of k (n / 10)) ((48 + n % 10) ∷ []), digits_most k (n / 10))))

pub decimal-most : (n : ℕ) → length (decimal n) ≤ 20
unfolding decimal
decimal-most n = digits_most 20 n

-- three for a byte
one_digit : (k n : ℕ) → n < 10 → length (digits_of (suc k) n) ≤ 1
unfolding digits_of
one_digit k n h = rw (lt-ltb n 10 h) (omega arith)

more_digits : (k m n : ℕ) → 1 ≤ m → length (digits_of k (n / 10)) ≤ m → length (digits_of (suc k) n) ≤ m + 1
unfolding digits_of
more_digits k m n i h =
    split (ltb n 10) (λ e. rw e (omega arith)) (λ e. rw e (omega (arith, length-append (digits_of k (n / 10)) ((48 + n % 10) ∷ []), h)))

pub byte-most : (n : ℕ) → n < 256 → length (decimal n) ≤ 3
unfolding decimal
byte-most n h = more_digits 19 2 n (omega arith) (more_digits 18 1 (n / 10) (omega arith) (one_digit 17 (n / 10 / 10) (omega arith)))
