-- Items stored from the start of lent memory.
-- Assumes nothing.
use Prim.Native.Nat.{ℕ, ◌+◌, ◌*◌, ◌≤◌}
use native.Mathlib.Omega.{arith}
use mathlib.Core.Path.{◌≡◌, refl}
use mathlib.Core.List.{List, [], ◌∷◌}
use lib.ListN.{length, take, drop}
use lib.Seq.{sets, sets-eq, take_at}
use Rattle.std.proofs.Common.{Option, Some, None}
use Rattle.items.specs.Text.{ItemsRead, behind_item, bytes_in, words_in, byte_item, word_item}

-- what was stored from the start is what the first ones are
pub stored : (vs l : List ℕ) → length vs ≤ length l → take (length vs) (sets l 0 vs) ≡ vs
stored vs l h = rw (sets-eq vs l 0 (omega arith)) (take_at vs (drop (0 + length vs) l) (length vs) refl)

-- one item more at the most
behind_most : (v : Option ℕ) (r : ItemsRead ℕ) → length (behind_item v r).values ≤ 1 + length r.values
behind_most None r = omega arith
behind_most (Some v) r = omega arith

-- a text of items is at least so long
pub bytes_most : (t : List ℕ) → 3 * length (bytes_in t).values ≤ length t
unfolding bytes_in
bytes_most [] = omega arith
bytes_most (s ∷ []) = omega arith
bytes_most (s ∷ h ∷ []) = omega arith
bytes_most (s ∷ h ∷ l ∷ rest) = omega (arith, behind_most (byte_item s h l) (bytes_in rest), bytes_most rest)

pub words-most : (t : List ℕ) → 5 * length (words_in t).values ≤ length t
unfolding words_in
words-most [] = omega arith
words-most (s ∷ []) = omega arith
words-most (s ∷ a ∷ []) = omega arith
words-most (s ∷ a ∷ b ∷ []) = omega arith
words-most (s ∷ a ∷ b ∷ c ∷ []) = omega arith
words-most (s ∷ a ∷ b ∷ c ∷ d ∷ rest) = omega (arith, behind_most (word_item s a b c d) (words_in rest), words-most rest)
