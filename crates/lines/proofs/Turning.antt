-- A turn goes on in the piece, and is a turn as the promise has it.
-- Assumes nothing.
use Prim.Native.Nat.{ℕ, ◌<◌}
use native.Mathlib.Omega.{arith}
use mathlib.Core.Path.{◌≡◌, sym, ap, subst, ◌∙◌}
use mathlib.Core.Bool.{◌&&◌}
use mathlib.Core.List.{List}
use lib.Dec.{ltb, eqb}
use lib.ListN.{length}
use borrow.Author.Tests.{eqb-true}
use Rattle.std.proofs.Common.{Option, Some, None}
use Rattle.rows.proofs.Bool.{by-test}
use Rattle.lines.specs.declared.Cursor.{Cursor}
use Rattle.lines.specs.declared.Cut.{Cut}
use Rattle.lines.specs.declared.Found.{Found}
use Rattle.lines.specs.Cut.{end_of, cut_of, held_line, text_of}
use Rattle.lines.specs.Turns.{Stand, FoundAnswered, Turn}

-- the cursor goes on
pub cut_on : (piece : List ℕ) (c : Cursor) → c.from < length piece → c.from < (cut_of piece c).cursor.from
unfolding cut_of
cut_on piece c h =
    by-test (λ (k : Cut). c.from < k.cursor.from) (ltb (end_of piece c) (length piece) && eqb c.held 0) (λ _. omega arith)
    (λ _. by-test (λ (k : Cut). c.from < k.cursor.from) (eqb (end_of piece c) (length piece)) (λ e. omega (arith, eqb-true (end_of piece c) (length piece) e)) (λ _. omega arith))

-- a turn: a line that is found is answered, and where none ends in the piece nothing is
module _ {S : Type 0} (A : List ℕ → S → S → Type 0) (piece : List ℕ) (s t : Stand S) (cut : Cut) (e : cut ≡ cut_of piece s.cursor)
    (ec : t.cursor ≡ cut.cursor) (el : t.line ≡ held_line piece s.cursor s.line) where
  turned : FoundAnswered A cut.found piece s t → Turn A piece s t
  turned h =
      record {
        cursor = ec ∙ ap (λ (x : Cut). x.cursor) e;
        line = el;
        answered = subst (λ (x : Cut). FoundAnswered A x.found piece s t) e h;
      }

  pub turn_found : (f : Found) → cut.found ≡ Some f → A (text_of (Some f) piece t.line) s.rest t.rest → Turn A piece s t
  turn_found f k h = turned (subst (λ (x : Option Found). FoundAnswered A x piece s t) (sym k) h)

  pub turn_more : cut.found ≡ None → t.rest ≡ s.rest → Turn A piece s t
  turn_more k er = turned (subst (λ (x : Option Found). FoundAnswered A x piece s t) (sym k) er)
