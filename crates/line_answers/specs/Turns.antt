-- What is promised of a line, and of the lines of a piece.
-- Assumes nothing.
use Rattle.std.specs.Prelude.{ℕ, suc, ◌≡◌, true, false, List, length}
use Rattle.lines.specs.Cut.{before}
use Rattle.answers.specs.Answers.{line_text}
use Rattle.line_calls.specs.Memory.{lent_at, Within}
use Rattle.line_calls.specs.Promise.{step_of, LentAnswered}
use Rattle.lab_calls.specs.Own.{own_of, shown_in, OwnAnswered}
use Rattle.line_answers.specs.declared.Program.{Program}
use Rattle.line_answers.specs.declared.Bench.{Bench}
use Rattle.line_answers.specs.Lines.{asking_of, own_in, sizes_after}

-- what is printed for a text
abbrev pub text_printed : Program → List ℕ → Bench → List ℕ
text_printed p t b = line_text (asking_of p t).asked (step_of (asking_of p t).asked b.pod (lent_at b.sizes b.memory)).told

-- a call is answered as the rules answer what the text asks, by one line: its first newline is its last character
pub record CallAnswered (p : Program) (t : List ℕ) (b b' : Bench) : Type 0 where
  pub answered : LentAnswered (asking_of p t).asked b.pod b'.pod b.sizes b.memory b'.memory b.out b'.out
  pub sizes : b'.sizes ≡ sizes_after (asking_of p t).asked b.sizes
  pub program : b'.program ≡ b.program
  pub line : suc (before (text_printed p t b)) ≡ length (text_printed p t b)

-- a line of lab's own is answered as it says, by one line; of the memory only the words of a load may change
pub record OwnText (t : List ℕ) (b b' : Bench) : Type 0 where
  pub answered : OwnAnswered t b.pod b'.pod b.sizes b'.sizes b.memory b'.memory b.out b'.out
  pub program : b'.program ≡ b.program
  pub line : suc (before (own_of t b.pod b.sizes (shown_in b.memory)).text) ≡ length (own_of t b.pod b.sizes (shown_in b.memory)).text

-- a text is a line of lab's own, or else it calls or asks nothing
pub data TextAnswered (p : Program) (t : List ℕ) (b b' : Bench) : Type 0 where
  own : own_in p t ≡ true → OwnText t b b' → TextAnswered p t b b'
  call : own_in p t ≡ false → CallAnswered p t b b' → TextAnswered p t b b'

-- a text answered, of the program that it stays: a line may change the pod, the sizes, the memory that is lent, and the output
abbrev pub AnswersText : List ℕ → Bench → Bench → Type 0
AnswersText text b b' = TextAnswered b.program text b b'

-- what holds between two lines: no size is over that of the memory, and the output has 65,536 places
pub record Ready (b : Bench) : Type 0 where
  pub within : Within b.sizes
  pub room : length b.out.out.now ≡ 65536
