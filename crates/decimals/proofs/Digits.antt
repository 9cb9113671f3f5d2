-- Decimal numbers, a digit at a time from the front.
-- Assumes nothing.
use Prim.Native.Nat.{ℕ, suc, ◌+◌, ◌-◌, ◌*◌, ◌^◌, ◌≤◌, ◌<◌}
use native.Mathlib.Omega.{arith}
use native.Mathlib.Nat.{pow-succ'}
use native.Mathlib.Numerals.{add-one}
use mathlib.Core.Path.{◌≡◌, refl, sym, ap, ◌∙◌}
use mathlib.Core.List.{List, [], ◌∷◌}
use lib.ListN.{length, take, drop, get_or, length-drop, drop_of_length-le}
use lib.Seq.{drop-cons, take_all}
use lib.Dec.{leb}
use borrow.Author.Tests.{leb-true}
use Rattle.rows.proofs.Bool.{split, and_left, and_right}
use Rattle.std.specs.Prelude.{Some, None}
use Rattle.std.proofs.lemmas.Option.{cond_some, none-some}
use Rattle.decimals.specs.Reading.{is_digit, digit_in, digits_from}

pub empty : (t : List ℕ) → length t ≡ 0 → t ≡ []
empty [] h = refl
empty (c ∷ cs) h = absurd (omega arith)

-- all of a text from a place on
pub the_rest : (t : List ℕ) (k : ℕ) → take (length t - k) (drop k t) ≡ drop k t
the_rest t k = take_all (length t - k) (drop k t) (omega (arith, length-drop k t))

module _ (t : List ℕ) (i n : ℕ) where
  pub digits_end : length t ≤ i → digits_from n (drop i t) ≡ Some n
  unfolding digits_from
  digits_end h = rw (drop_of_length-le t {i = i} h)

  module _ (h : i < length t) where
    next : drop i t ≡ get_or t i 0 ∷ drop (i + 1) t
    next = drop-cons t i 0 h ∙ ap (λ (k : ℕ). get_or t i 0 ∷ drop k t) (sym (add-one i))

    -- a digit
    pub digit_on : (d : ℕ) → Some d ≡ digit_in (get_or t i 0) → digits_from n (drop i t) ≡ digits_from (n * 10 + d) (drop (i + 1) t)
    unfolding digits_from
    digit_on d e =
        let is = cond_some (is_digit (get_or t i 0)) (get_or t i 0 - 48) d (sym e) in
        rw (next, is.0, is.1)

    -- and any other character
    pub digit-off : None ≡ digit_in (get_or t i 0) → digits_from n (drop i t) ≡ None
    unfolding digits_from
    digit-off e = split (is_digit (get_or t i 0)) (λ y. absurd (none-some (get_or t i 0 - 48) (rw y at e))) (λ y. rw (next, y))

pub digit-most : (c d : ℕ) → Some d ≡ digit_in c → d ≤ 9
digit-most c d e =
    let is = cond_some (is_digit c) (c - 48) d (sym e) in
    let low : 48 ≤ c = leb-true 48 c (and_left (leb 48 c) (leb c 57) is.0) in
    let high : c ≤ 57 = leb-true c 57 (and_right (leb 48 c) (leb c 57) is.0) in
    omega (arith, is.1)

-- i digits say less than 10 ^ i, and ten of them fit
pub tens : (i n d : ℕ) → n < 10 ^ i → d ≤ 9 → n * 10 + d < 10 ^ (i + 1)
tens i n d h k =
    let e : 10 ^ suc i ≡ 10 * 10 ^ i = pow-succ' 10 i in
    rw add-one (omega arith)
