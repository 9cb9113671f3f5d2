-- Reading what was written gives it back, and nothing else is read.
-- Assumes nothing.
use Prim.Native.Nat.{ℕ, ◌+◌, ◌*◌, ◌/◌, ◌%◌, ◌<◌}
use native.Mathlib.Omega.{arith}
use mathlib.Core.Path.{◌≡◌, refl, sym, ap, ◌∙◌}
use mathlib.Core.Bool.{true, false≢true}
use mathlib.Core.List.{List, [], ◌∷◌, ◌++◌}
use mathlib.Core.Bool.{cond}
use lib.Dec.{eqb}
use borrow.Author.Tests.{eqb-true}
use Rattle.std.specs.Prelude.{Option, Some, None}
use Rattle.std.proofs.lemmas.Option.{none-some, same_Some}
use Rattle.hexes.specs.Digits.{digit_of, byte_digits, word_digits}
use Rattle.items.specs.Text.{spell, pair_in, byte_item, word_of, word_item, items_read, bytes_in, words_in}
use Rattle.rows.proofs.Bool.{split}
use Rattle.items.proofs.Numerals.{pair_back, pair_is}

-- each number of a list is below n
abbrev pub Under : ℕ → List ℕ → Type 0
Under n [] = Unit {0}
Under n (x ∷ xs) = (x < n) × Under n xs

by-item : {A P : Type 0} (o : Option A) → (o ≡ None → P) → ((v : A) → o ≡ Some v → P) → P
by-item None none some = none refl
by-item (Some v) none some = some v refl

-- a byte's item written and read, and read and written
pub byte_back : (b : ℕ) → b < 256 → byte_item 32 (digit_of (b / 16)) (digit_of (b % 16)) ≡ Some b
unfolding byte_item
byte_back b h = pair_back b h

-- an item that is read begins with a space
spaced : {A : Type 0} (s : ℕ) (o : Option A) (v : A) → cond (eqb s 32) o None ≡ Some v → (s ≡ 32) × (o ≡ Some v)
spaced s o v e = split (eqb s 32) (λ y. (eqb-true s 32 y, rw y at e)) (λ y. absurd (none-some v (rw y at e)))

pub byte_is : (s h l b : ℕ) → byte_item s h l ≡ Some b → (b < 256) × (s ∷ h ∷ l ∷ [] ≡ 32 ∷ byte_digits b)
unfolding byte_item
byte_is s h l b e =
    let p = spaced s (pair_in h l) b e in
    let d = pair_is h l b p.1 in
    (d.0, ap (λ (x : ℕ). x ∷ h ∷ l ∷ []) p.0 ∙ ap (λ (x : List ℕ). 32 ∷ x) (sym d.1))

-- bytes written are read again
pub bytes_back : (bs : List ℕ) → Under 256 bs → bytes_in (spell bs) ≡ items_read bs true
unfolding bytes_in spell
bytes_back [] u = refl
bytes_back (b ∷ bs) u = rw (byte_back b u.0, bytes_back bs u.1)

-- and a text that is read whole is its bytes written: nothing else is accepted
pub bytes-only : (t : List ℕ) → (bytes_in t).whole ≡ true → t ≡ spell (bytes_in t).values
unfolding bytes_in spell
bytes-only [] w = refl
bytes-only (s ∷ []) w = absurd (false≢true w)
bytes-only (s ∷ h ∷ []) w = absurd (false≢true w)
bytes-only (s ∷ h ∷ l ∷ rest) w =
    by-item (byte_item s h l)
    (λ e. absurd (false≢true (rw e at w)))
    (λ b e.
    rw e
    (ap (λ (x : List ℕ). x ++ rest) (byte_is s h l b e).1
    ∙ ap (λ (x : List ℕ). (32 ∷ byte_digits b) ++ x) (bytes-only rest (rw e at w))))

-- each byte that is read is below 256
pub bytes_under : (t : List ℕ) → Under 256 (bytes_in t).values
unfolding bytes_in
bytes_under [] = tt
bytes_under (s ∷ []) = tt
bytes_under (s ∷ h ∷ []) = tt
bytes_under (s ∷ h ∷ l ∷ rest) =
    by-item (byte_item s h l) (λ e. rw e tt) (λ b e. rw e ((byte_is s h l b e).0, bytes_under rest))

-- words as they are printed: each after one space
unfoldable pub spell_words : List ℕ → List ℕ
spell_words [] = []
spell_words (w ∷ ws) = 32 ∷ (word_digits w ++ spell_words ws)

-- words likewise: the item ..
pub word_back : (w : ℕ) → w < 65536
    → word_item 32 (digit_of (w / 256 / 16)) (digit_of (w / 256 % 16)) (digit_of (w % 256 / 16)) (digit_of (w % 256 % 16)) ≡ Some w
unfolding word_item word_of
word_back w h =
    let whole : w / 256 * 256 + w % 256 ≡ w = omega arith in
    rw (pair_back (w / 256) (omega arith), pair_back (w % 256) (omega arith), whole)

both : (o p : Option ℕ) (w : ℕ) → word_of o p ≡ Some w → (h : ℕ) × (l : ℕ) × (o ≡ Some h) × (p ≡ Some l) × (h * 256 + l ≡ w)
unfolding word_of
both (Some h) (Some l) w e = (h, l, refl, refl, same_Some (h * 256 + l) w e)
both (Some h) None w e = absurd (none-some w e)
both None p w e = absurd (none-some w e)

pub word_is : (s a b c d w : ℕ) → word_item s a b c d ≡ Some w → s ∷ a ∷ b ∷ c ∷ d ∷ [] ≡ 32 ∷ word_digits w
unfolding word_item
word_is s a b c d w e =
    let p = spaced s (word_of (pair_in a b) (pair_in c d)) w e in
    let two = both (pair_in a b) (pair_in c d) w p.1 in
    let h = two.0 in
    let l = two.1 in
    let high = pair_is a b h two.2 in
    let low = pair_is c d l two.3 in
    let sum : h * 256 + l ≡ w = two.4 in
    let under : l < 256 = low.0 in
    let q : w / 256 ≡ h = omega arith in
    let r : w % 256 ≡ l = omega arith in
    ap (λ (x : ℕ). x ∷ a ∷ b ∷ c ∷ d ∷ []) p.0
    ∙ ap (λ (x : List ℕ). 32 ∷ (x ++ (c ∷ d ∷ []))) (sym high.1 ∙ ap byte_digits (sym q))
    ∙ ap (λ (x : List ℕ). 32 ∷ (byte_digits (w / 256) ++ x)) (sym low.1 ∙ ap byte_digits (sym r))

-- .. and the text
pub words_back : (ws : List ℕ) → Under 65536 ws → words_in (spell_words ws) ≡ items_read ws true
unfolding words_in spell_words
words_back [] u = refl
words_back (w ∷ ws) u = rw (word_back w u.0, words_back ws u.1)

pub words-only : (t : List ℕ) → (words_in t).whole ≡ true → t ≡ spell_words (words_in t).values
unfolding words_in spell_words
words-only [] h = refl
words-only (s ∷ []) h = absurd (false≢true h)
words-only (s ∷ a ∷ []) h = absurd (false≢true h)
words-only (s ∷ a ∷ b ∷ []) h = absurd (false≢true h)
words-only (s ∷ a ∷ b ∷ c ∷ []) h = absurd (false≢true h)
words-only (s ∷ a ∷ b ∷ c ∷ d ∷ rest) h =
    by-item (word_item s a b c d)
    (λ e. absurd (false≢true (rw e at h)))
    (λ w e.
    rw e
    (ap (λ (x : List ℕ). x ++ rest) (word_is s a b c d w e)
    ∙ ap (λ (x : List ℕ). (32 ∷ word_digits w) ++ x) (words-only rest (rw e at h))))
