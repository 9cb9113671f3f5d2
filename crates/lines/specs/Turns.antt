-- Turn after turn: the next line of a piece, as lines are cut, and its answer, whatever a program answers.
-- Assumes nothing.
use Rattle.std.specs.Prelude.{ℕ, ◌≡◌, List, Option, Some, None}
use Rattle.lines.specs.declared.Cursor.{Cursor}
use Rattle.lines.specs.declared.Found.{Found}
use Rattle.lines.specs.Cut.{cut_of, held_line, text_of}

-- all that a turn may change: where the next line starts and what is held of it; and what the program's answers go by
pub record Stand (S : Type 0) : Type 0 where
  pub cursor : Cursor
  pub line : List ℕ
  pub rest : S

abbrev pub stand : {S : Type 0} → Cursor → List ℕ → S → Stand S
stand c l r = record { cursor = c; line = l; rest = r }

-- a line that was found is answered; where none ends in the piece nothing is
abbrev pub FoundAnswered : {S : Type 0} → (List ℕ → S → S → Type 0) → Option Found → List ℕ → Stand S → Stand S → Type 0
FoundAnswered A (Some f) piece s t = A (text_of (Some f) piece t.line) s.rest t.rest
FoundAnswered A None piece s t = t.rest ≡ s.rest

-- a turn
pub record Turn {S : Type 0} (A : List ℕ → S → S → Type 0) (piece : List ℕ) (s t : Stand S) : Type 0 where
  pub cursor : t.cursor ≡ (cut_of piece s.cursor).cursor
  pub line : t.line ≡ held_line piece s.cursor s.line
  pub answered : FoundAnswered A (cut_of piece s.cursor).found piece s t

-- turn after turn
pub data Turns {S : Type 0} (A : List ℕ → S → S → Type 0) (piece : List ℕ) : Stand S → Stand S → Type 0 where
  start : (s : Stand S) → Turns A piece s s
  another : (s t u : Stand S) → Turns A piece s t → Turn A piece t u → Turns A piece s u
