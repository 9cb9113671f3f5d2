-- Characters none of which is a newline: what is printed before a line's last character.
-- Assumes nothing.
use Prim.Native.Nat.{ℕ, zero, suc, ◌/◌, ◌%◌, ◌<◌}
use native.Mathlib.Omega.{arith}
use mathlib.Core.List.{List, [], ◌∷◌, ◌++◌}
use lib.Dec.{ltb}
use Rattle.rows.proofs.Bool.{split, by-test}
use Rattle.hexes.specs.Digits.{digit_of, byte_digits, word_digits}
use Rattle.items.specs.Text.{spell}
use Rattle.items.specs.Printed.{answer_line, digits_of, decimal}

-- all of them stand behind it
abbrev pub Inked : List ℕ → Type 0
Inked [] = Unit {0}
Inked (c ∷ cs) = (10 < c) × Inked cs

pub inked_both : (l m : List ℕ) → Inked l → Inked m → Inked (l ++ m)
inked_both [] m i j = j
inked_both (c ∷ l) m i j = (i.0, inked_both l m i.1 j)

digit_inked : (n : ℕ) → 10 < digit_of n
digit_inked n = split (ltb n 10) (λ e. rw e (omega arith)) (λ e. rw e (omega arith))

pub byte_inked : (b : ℕ) → Inked (byte_digits b)
byte_inked b = (digit_inked (b / 16), (digit_inked (b % 16), tt))

pub word_inked : (w : ℕ) → Inked (word_digits w)
word_inked w = inked_both (byte_digits (w / 256)) (byte_digits (w % 256)) (byte_inked (w / 256)) (byte_inked (w % 256))

pub spell_inked : (bs : List ℕ) → Inked (spell bs)
unfolding spell
spell_inked [] = tt
spell_inked (b ∷ bs) = (omega arith, inked_both (byte_digits b) (spell bs) (byte_inked b) (spell_inked bs))

pub answered_inked : (bs : List ℕ) → Inked (answer_line bs)
unfolding answer_line
answered_inked [] = (omega arith, (omega arith, tt))
answered_inked (b ∷ bs) = spell_inked (b ∷ bs)

digits_inked : (k n : ℕ) → Inked (digits_of k n)
unfolding digits_of
digits_inked zero n = tt
digits_inked (suc k) n =
    by-test Inked (ltb n 10) (λ e. (omega arith, tt)) (λ e. inked_both (digits_of k (n / 10)) _ (digits_inked k (n / 10)) (omega arith, tt))

pub decimal_inked : (n : ℕ) → Inked (decimal n)
unfolding decimal
decimal_inked n = digits_inked 20 n
