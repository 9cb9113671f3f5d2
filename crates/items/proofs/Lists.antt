-- A text from its front, and runs of stores one behind the other.
-- Assumes nothing.
use Prim.Native.Nat.{ℕ, ◌+◌, ◌<◌}
use native.Mathlib.Numerals.{add-one}
use mathlib.Core.Path.{◌≡◌, sym, ap, ◌∙◌}
use mathlib.Core.List.{List, ◌∷◌, ◌++◌}
use lib.ListN.{length, drop, get_or}
use lib.Seq.{sets, drop-cons}
use Rattle.numbers.proofs.Stores.{sets_append}

-- the next character, and what stands behind it
pub next : (t : List ℕ) (i k : ℕ) → i < length t → i + 1 ≡ k → drop i t ≡ get_or t i 0 ∷ drop k t
next t i k h e = drop-cons t i 0 h ∙ ap (λ (j : ℕ). get_or t i 0 ∷ drop j t) (sym (add-one i) ∙ e)

-- two runs of stores, the second behind the first, are one
pub sets_join : (vs ws l : List ℕ) (i k : ℕ) → i + length vs ≡ k → sets (sets l i vs) k ws ≡ sets l i (vs ++ ws)
sets_join vs ws l i k e = rw (← e) (sym (sets_append l i vs ws))
