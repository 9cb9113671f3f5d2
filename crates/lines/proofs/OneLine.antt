-- What is printed is one line: a newline at its end, and no other.
-- Assumes nothing.
use Prim.Native.Nat.{ℕ, suc, ◌<◌}
use native.Mathlib.Omega.{arith}
use mathlib.Core.Path.{◌≡◌, refl, ap}
use mathlib.Core.List.{List, [], ◌∷◌, ◌++◌}
use lib.ListN.{length}
use borrow.Author.Tests.{ne_eqb}
use Rattle.hexes.specs.Digits.{word_digits}
use Rattle.items.specs.Printed.{answer_line, bytes_line, word_line, bare_line, decimal, refused_line}
use Rattle.items.proofs.Inked.{Inked, word_inked, answered_inked, decimal_inked}
use Rattle.lines.specs.Cut.{before}

-- characters none of which is a newline, and a newline
pub ended : (l : List ℕ) → Inked l → suc (before (l ++ (10 ∷ []))) ≡ length (l ++ (10 ∷ []))
unfolding before
ended [] i = refl
ended (c ∷ l) i = rw (ne_eqb c 10 (λ e. omega (arith, i.0))) (ap suc (ended l i.1))

-- each line behind a letter that is no newline
module _ (c : ℕ) (h : 10 < c) where
  pub bytes_one : (bs : List ℕ) → suc (before (bytes_line c bs)) ≡ length (bytes_line c bs)
  unfolding bytes_line
  bytes_one bs = ended (c ∷ answer_line bs) (h, answered_inked bs)

  pub word_one : (w : ℕ) → suc (before (word_line c w)) ≡ length (word_line c w)
  unfolding word_line
  word_one w = ended (c ∷ 32 ∷ word_digits w) (h, (omega arith, word_inked w))

  pub bare_one : suc (before (bare_line c)) ≡ length (bare_line c)
  unfolding bare_line
  bare_one = ended (c ∷ []) (h, tt)

  pub refused_one : (n : ℕ) → suc (before (refused_line c n)) ≡ length (refused_line c n)
  unfolding refused_line
  refused_one n = ended (c ∷ 32 ∷ 33 ∷ decimal n) (h, (omega arith, (omega arith, decimal_inked n)))
