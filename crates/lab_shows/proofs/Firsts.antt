-- Lists filled from the front.
-- Assumes nothing.
use Prim.Native.Nat.{ℕ, ◌+◌, ◌*◌, ◌≤◌, ◌<◌}
use native.Mathlib.Omega.{arith}
use native.Mathlib.Numerals.{add-one}
use mathlib.Core.Path.{◌≡◌, refl, sym, ap, ap₂, ◌∙◌}
use mathlib.Core.List.{List, [], ◌∷◌, ◌++◌, append_assoc, append-nil}
use lib.ListN.{length, take, drop, get_or, length-append}
use lib.Seq.{sets, sets-eq, take-suc, take_at, length-take-le}
use Rattle.numbers.specs.Numbers.{high_first}
use Rattle.lab_shows.specs.Shown.{word_bytes}

words-both : (xs ys : List ℕ) → word_bytes (xs ++ ys) ≡ word_bytes xs ++ word_bytes ys
unfolding word_bytes
words-both [] ys = refl
words-both (x ∷ xs) ys = ap (λ (t : List ℕ). high_first 2 x ++ t) (words-both xs ys) ∙ sym (append_assoc (high_first 2 x) (word_bytes xs) (word_bytes ys))

one_word : (w : ℕ) → word_bytes (w ∷ []) ≡ high_first 2 w
unfolding word_bytes
one_word w = append-nil (high_first 2 w)

two_long : (w : ℕ) → length (high_first 2 w) ≡ 2
unfolding high_first
two_long w = refl

-- one word more
pub word_in : (l ws : List ℕ) (i : ℕ) → i < length ws → 2 * i + 2 ≤ length l → take (2 * i) l ≡ word_bytes (take i ws)
    → take (2 * (i + 1)) (sets l (2 * i) (high_first 2 (get_or ws i 0))) ≡ word_bytes (take (i + 1) ws)
word_in l ws i h k e =
    let w = get_or ws i 0 in
    let b = high_first 2 w in
    let n : length b ≡ 2 = two_long w in
    let size : length (take (2 * i) l ++ b) ≡ 2 * (i + 1) = omega (arith, length-append (take (2 * i) l) b, length-take-le (2 * i) l (omega arith)) in
    ap (take (2 * (i + 1))) (sets-eq b l (2 * i) (omega arith))
    ∙ take_at (take (2 * i) l ++ b) (drop (2 * i + length b) l) (2 * (i + 1)) size
    ∙ ap₂ (λ (x y : List ℕ). x ++ y) e (sym (one_word w))
    ∙ sym (words-both (take i ws) (w ∷ []))
    ∙ ap word_bytes (sym (take-suc ws i 0 h) ∙ ap (λ (k : ℕ). take k ws) (sym (add-one i)))
