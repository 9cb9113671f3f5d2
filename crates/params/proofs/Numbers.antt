-- The kept list as one number, place by place, against that of the right list; and that the library has the same number of its bytes.
-- Assumes nothing.
use Prim.{⊥}
use Prim.Native.Nat.{ℕ, zero, suc, ◌+◌, ◌*◌, ◌%◌, ◌^◌, ◌<◌, ◌≤◌}
use native.Mathlib.Omega.{arith}
use mathlib.Core.Path.{◌≡◌, refl, sym, ap, ◌∙◌}
use mathlib.Core.Bool.{Bool, true, ◌&&◌}
use mathlib.Core.List.{List, [], ◌∷◌}
use borrow.Author.Tests.{eqb-true, eqb-false, eq-eqb, ne_eqb, ltb-true, lt-ltb}
use lib.Dec.{eqb, ltb}
use lib.ListN.{length, drop, drop_of_length-le}
use lib.Seq.{drop-cons}
use Rattle.std.proofs.Common.{w32, w64, get_or-drop}
use Rattle.std.specs.Int.{from_le_bytes, to_le_bytes}
use Rattle.std.proofs.lemmas.Nat.{from_le_bytes-to_le_bytes_8}
use Rattle.rows.proofs.Bool.{split, and_left, and_right}
use Rattle.rows.specs.Same.{same_list}
use Rattle.params.specs.declared.Params.{Params}
use Rattle.params.specs.Rules.{marked, list_kept}
use Rattle.params.specs.Packed.{low_first, bytes, places, index, asked_marks, list_for}
use Rattle.params.proofs.Missing.{by_marks, for_marks, by_long, by_bytes, halves}

spelt : (l : List ℕ) (i n : ℕ) → length l ≡ i + n → drop i l ≡ places l i n
spelt l i zero e = let short : length l ≤ i = omega arith in drop_of_length-le l short
spelt l i (suc n) e = rw (drop-cons l i 0 (omega arith), spelt l (suc i) n (omega arith))

-- two numbers with a byte below each
two_parts : (x y m n : ℕ) → x < 256 → y < 256 → eqb (x + 256 * m) (y + 256 * n) ≡ (eqb x y && eqb m n)
two_parts x y m n h k =
    split (eqb x y)
    (λ e.
    split (eqb m n)
    (λ f. rw (e, f) (eq-eqb (x + 256 * m) (y + 256 * n) (omega (arith, eqb-true x y e, eqb-true m n f))))
    (λ f. rw (e, f) (ne_eqb (x + 256 * m) (y + 256 * n) (λ z. eqb-false m n f (omega arith)))))
    (λ e. rw e (ne_eqb (x + 256 * m) (y + 256 * n) (λ z. eqb-false x y e (omega arith))))

-- two lists of as many bytes are one exactly where their numbers are
pub same_number : (a b : List ℕ) → length a ≡ length b → bytes a ≡ true → bytes b ≡ true → eqb (low_first a) (low_first b) ≡ same_list a b
unfolding low_first bytes same_list
same_number [] [] e f g = refl
same_number [] (y ∷ b) e f g = absurd (let no : ⊥ = omega (arith, e) in no)
same_number (x ∷ a) [] e f g = absurd (let no : ⊥ = omega (arith, e) in no)
same_number (x ∷ a) (y ∷ b) e f g =
    two_parts x y (low_first a) (low_first b) (ltb-true x 256 (and_left (ltb x 256) (bytes a) f)) (ltb-true y 256 (and_left (ltb y 256) (bytes b) g))
    ∙ ap (λ t. eqb x y && t) (same_number a b (omega (arith, e)) (and_right (ltb x 256) (bytes a) f) (and_right (ltb y 256) (bytes b) g))

-- ---- the library's number of the same bytes

-- eight places, and each half of them
eight_low : (l : List ℕ) → length l ≡ 8 → low_first l ≡ from_le_bytes w64 l
unfolding low_first
eight_low l e = omega (arith, ap low_first (spelt l 0 8 e))

pub first_low : (l : List ℕ) → low_first (places l 0 4) ≡ from_le_bytes w32 l
unfolding low_first
first_low l = omega arith

pub last_low : (l : List ℕ) → low_first (places l 4 4) ≡ from_le_bytes w32 (drop 4 l)
unfolding low_first
last_low l = omega (arith, get_or-drop {A = ℕ})

-- eight places by their halves
pub halves_number : (l : List ℕ) → length l ≡ 8 → low_first (places l 0 4) + 0x1_0000_0000 * low_first (places l 4 4) ≡ low_first l
halves_number l e = rw (first_low l, last_low l, eight_low l e) (halves l)

-- a number of 64 bits is that of its eight bytes
pub low_back : (n : ℕ) → n < 2 ^ 64 → low_first (to_le_bytes w64 n) ≡ n
low_back n h = eight_low (to_le_bytes w64 n) refl ∙ from_le_bytes-to_le_bytes_8 n h

byte_small : (m : ℕ) → ltb (m % 256) 256 ≡ true
byte_small m = lt-ltb (m % 256) 256 (omega arith)

pub low_bytes : (n : ℕ) → bytes (to_le_bytes w64 n) ≡ true
unfolding bytes
low_bytes n = simp byte_small

-- ---- the right list

-- its number, by its halves
pub right_number : (a b c d e : Bool)
    → low_first (places (list_for (index a b c d e)) 0 4) + 0x1_0000_0000 * low_first (places (list_for (index a b c d e)) 4 4) ≡ low_first (list_for (index a b c d e))
right_number a b c d e = halves_number (list_for (index a b c d e)) (ap length (for_marks a b c d e) ∙ by_long a b c d e)

-- a number is that of such a list exactly where its own eight bytes are the list
as_number : (n : ℕ) (m : List ℕ) → n < 2 ^ 64 → to_le_bytes w64 (from_le_bytes w64 m) ≡ m → eqb n (from_le_bytes w64 m) ≡ same_list (to_le_bytes w64 n) m
as_number n m h k =
    let eight : length m ≡ 8 = ap length (sym k) in
    let small : bytes m ≡ true = ap bytes (sym k) ∙ low_bytes (from_le_bytes w64 m) in
    let numbers = same_number (to_le_bytes w64 n) m (sym eight) (low_bytes n) small in
    rw (low_back n h, eight_low m eight) at numbers

-- so the test by numbers is the rule's
pub judged : (p : Params) (n : ℕ) → n < 2 ^ 64 → to_le_bytes w64 n ≡ p.missing → length p.written ≡ 12
    → let right = list_for (asked_marks p.written) in
    eqb n (from_le_bytes w32 right + 0x1_0000_0000 * from_le_bytes w32 (drop 4 right)) ≡ list_kept p
unfolding list_kept
judged p n h e twelve =
    let right = list_for (asked_marks p.written) in
    let same = for_marks (marked p 1) (marked p 2) (marked p 3) (marked p 6) (marked p 7) in
    let whole = right_number (marked p 1) (marked p 2) (marked p 3) (marked p 6) (marked p 7) in
    let number : from_le_bytes w32 right + 0x1_0000_0000 * from_le_bytes w32 (drop 4 right) ≡ from_le_bytes w64 right =
    cc (whole, first_low right, last_low right, eight_low right (ap length same ∙ by_long _ _ _ _ _)) in
    rw (twelve, number, same, by_marks p, ← e) (as_number n _ h (by_bytes _ _ _ _ _))
