-- What is kept of a line that comes in parts.
-- Assumes nothing.
use Prim.Native.Nat.{ℕ, ◌+◌, ◌-◌, ◌≤◌, ◌<◌}
use native.Mathlib.Omega.{arith}
use mathlib.Core.Path.{◌≡◌, refl, ap, ◌∙◌}
use mathlib.Core.Bool.{true, false, ◌&&◌}
use mathlib.Core.List.{List}
use lib.ListN.{length, take, drop}
use Rattle.std.proofs.Common.{Some, None}
use lib.Dec.{ltb, leb, eqb}
use lib.Seq.{sets}
use borrow.Author.Tests.{le-leb, lt-leb, leb-true, eq-eqb, ne_eqb}
use Rattle.lines.specs.declared.Cursor.{Cursor}
use Rattle.lines.specs.declared.Found.{Found}
use Rattle.lines.specs.declared.Found.TheVariants.{Here}
use Rattle.lines.specs.Cut.{held_of, kept_of, last_of, end_of, cut_at, cut_of, held_line}
use Rattle.rows.proofs.Bool.{split}

-- too long
pub too_long : (line : List ℕ) (held : ℕ) (part : List ℕ) → 196606 < held + length part
    → (196607 ≡ held_of held (length part)) × (line ≡ kept_of line held part)
unfolding held_of kept_of
too_long line held part h = rw (lt-leb (held + length part) 196606 h) (refl, refl)

-- not too long
pub fits_in : (line : List ℕ) (held : ℕ) (part : List ℕ) → held + length part ≤ 196606
    → (held + length part ≡ held_of held (length part)) × (sets line held part ≡ kept_of line held part)
unfolding held_of kept_of
fits_in line held part h = rw (le-leb (held + length part) 196606 h) (refl, refl)

-- no count passes 196607
pub held-most : (held more : ℕ) → held_of held more ≤ 196607
unfolding held_of
held-most held more =
    split (leb (held + more) 196606) (λ e. let h = leb-true (held + more) 196606 e in rw e (omega arith)) (λ e. rw e (omega arith))

-- the three cases of the next line, which ends at a place
module _ (piece : List ℕ) (c : Cursor) (line : List ℕ) (end : ℕ) (e : end ≡ end_of piece c) where
  abbrev part : List ℕ
  part = take (end - c.from) (drop c.from piece)

  pub here_is : (ltb end (length piece) && eqb c.held 0) ≡ true
      → (cut_at (Some (Here c.from end)) (end + 1) 0 ≡ cut_of piece c) × (line ≡ held_line piece c line)
  unfolding cut_of held_line
  here_is h = rw (← e, h) (refl, refl)

  pub more_is : (k : ℕ) (l : List ℕ) → (ltb end (length piece) && eqb c.held 0) ≡ false → end ≡ length piece
      → k ≡ held_of c.held (length part) → l ≡ kept_of line c.held part
      → (cut_at None end k ≡ cut_of piece c) × (l ≡ held_line piece c line)
  unfolding cut_of held_line
  more_is k l h d ek el = rw (← e, h, eq-eqb end (length piece) d) (ap (cut_at None end) ek, el)

  pub held_is : (f : Found) (k : ℕ) (l : List ℕ) → (ltb end (length piece) && eqb c.held 0) ≡ false → (end ≡ length piece → ⊥)
      → f ≡ last_of k → k ≡ held_of c.held (length part) → l ≡ kept_of line c.held part
      → (cut_at (Some f) (end + 1) 0 ≡ cut_of piece c) × (l ≡ held_line piece c line)
  unfolding cut_of held_line
  held_is f k l h d ef ek el =
      rw (← e, h, ne_eqb end (length piece) d) (ap (λ (x : Found). cut_at (Some x) (end + 1) 0) (ef ∙ ap last_of ek), el)
