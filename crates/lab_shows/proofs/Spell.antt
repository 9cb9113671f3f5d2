-- Runs of words from the front, and runs of numbers one behind the other.
-- Assumes nothing.
use Prim.Native.Nat.{ℕ, ◌+◌, ◌<◌, ◌≤◌}
use mathlib.Core.Path.{◌≡◌, sym, ap, ◌∙◌}
use mathlib.Core.List.{List, [], ◌∷◌, ◌++◌, append_assoc}
use lib.IntN.{ℤ}
use lib.ListN.{length, drop, get_or, drop_of_length-le}
use Rattle.hexes.specs.Digits.{word_digits}
use Rattle.decimals.specs.Printing.{spelled}
use Rattle.decimals.proofs.Spell.{next, spelled-both}
use Rattle.lab_shows.specs.Shown.{spelled_words}

pub words_on : (l : List ℕ) (i : ℕ) → i < length l → spelled_words (drop i l) ≡ (32 ∷ word_digits (get_or l i 0)) ++ spelled_words (drop (i + 1) l)
unfolding spelled_words
words_on l i h = rw (next l i 0 h)

pub words_end : (l : List ℕ) (i : ℕ) → length l ≤ i → spelled_words (drop i l) ≡ []
unfolding spelled_words
words_end l i h = rw (drop_of_length-le l {i = i} h)

pub three-spelled : (x y z : List ℤ) → spelled x ++ (spelled y ++ spelled z) ≡ spelled (x ++ (y ++ z))
three-spelled x y z = ap (λ (t : List ℕ). spelled x ++ t) (sym (spelled-both y z)) ∙ sym (spelled-both x (y ++ z))

pub in_front : (x y : List ℤ) (t : List ℕ) → spelled x ++ (spelled y ++ t) ≡ spelled (x ++ y) ++ t
in_front x y t = sym (append_assoc (spelled x) (spelled y) t) ∙ ap (λ (s : List ℕ). s ++ t) (sym (spelled-both x y))
