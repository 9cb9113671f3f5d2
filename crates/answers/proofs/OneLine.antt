-- Whatever a call tells, what is printed is one line: a newline at its end, and no other.
-- Assumes nothing.
use Prim.Native.Nat.{ℕ, suc, ◌<◌}
use native.Mathlib.Omega.{arith}
use mathlib.Core.Path.{◌≡◌}
use mathlib.Core.List.{List}
use lib.ListN.{length, take}
use Rattle.rows.specs.Rows.{Said, refused, gave}
use Rattle.rows.proofs.Bool.{split}
use Rattle.lines.specs.Cut.{before}
use Rattle.lines.specs.Asked.{Asked, packet, deadline, put, command, data_in, data_out, status, samples, ask_byte, ask_timeout, ask_out, ask_taken, power, other}
use Rattle.lines.proofs.OneLine.{bytes_one, word_one, bare_one, refused_one}
use Rattle.rules.specs.Refusals.{Giving, done, bytes, reads}
use Rattle.rules.specs.World.{Told}
use Rattle.answers.specs.Answers.{Form, form_of, said_line, line_text}

said_one : (f : Form) (s : Said Giving) (bs : List ℕ) → 10 < f.letter → suc (before (said_line f s bs)) ≡ length (said_line f s bs)
unfolding said_line
said_one f (refused n) bs h = refused_one f.letter h n
said_one f (gave done) bs h = split f.lists (λ e. rw e (bytes_one f.letter h bs)) (λ e. rw e (bare_one f.letter h))
said_one f (gave (bytes n)) bs h = bytes_one f.letter h (take n bs)
said_one f (gave (reads w)) bs h = word_one f.letter h w

letter_inked : (a : Asked) → 10 < (form_of a).letter
unfolding form_of
letter_inked (packet bs) = omega arith
letter_inked deadline = omega arith
letter_inked (put s bs) = omega arith
letter_inked (command w) = omega arith
letter_inked (data_in w) = omega arith
letter_inked data_out = omega arith
letter_inked status = omega arith
letter_inked (samples k ws) = omega arith
letter_inked (ask_byte b) = omega arith
letter_inked ask_timeout = omega arith
letter_inked (ask_out bs) = omega arith
letter_inked ask_taken = omega arith
letter_inked power = omega arith
letter_inked other = omega arith

-- the first newline is the last character
pub one_line : (a : Asked) (t : Told) → suc (before (line_text a t)) ≡ length (line_text a t)
unfolding line_text
one_line a t = said_one (form_of a) t.said t.bytes (letter_inked a)
