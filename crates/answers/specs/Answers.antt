-- The line that is printed for what a call tells.
-- Assumes nothing.
use Rattle.std.specs.Prelude.{ℕ, Bool, true, false, cond, List, take}
use Rattle.rows.specs.Rows.{Said, refused, gave}
use Rattle.rules.specs.Refusals.{Giving, done, bytes, reads}
use Rattle.rules.specs.World.{Told}
use Rattle.items.specs.Characters.{question}
use Rattle.items.specs.Printed.{bytes_line, word_line, bare_line, refused_line}
use Rattle.lines.specs.Letters.{letter_p, letter_d, letter_b, letter_c, letter_w, letter_r, letter_s, letter_a, letter_i, letter_t, letter_o, letter_k, letter_z}
use Rattle.lines.specs.Asked.{Asked, packet, deadline, put, command, data_in, data_out, status, samples, ask_byte, ask_timeout, ask_out, ask_taken, power, other}

-- how a line is answered: behind which letter, and whether a call that is done lists the bytes that it gives
pub record Form : Type 0 where
  pub letter : ℕ
  pub lists : Bool

abbrev pub form : ℕ → Bool → Form
form c b = record { letter = c; lists = b }

abbrev pub plain : ℕ → Form
plain c = form c false

abbrev pub listing : ℕ → Form
listing c = form c true

-- the letter of the line again; samples list their two frames, the pipe lists what it sends or shows; `?` for a line that calls nothing
unfoldable pub form_of : Asked → Form
form_of (packet bs) = plain letter_p
form_of deadline = plain letter_d
form_of (put s bs) = plain letter_b
form_of (command w) = plain letter_c
form_of (data_in w) = plain letter_w
form_of data_out = plain letter_r
form_of status = plain letter_s
form_of (samples k ws) = listing letter_a
form_of (ask_byte b) = listing letter_i
form_of ask_timeout = listing letter_t
form_of (ask_out bs) = listing letter_o
form_of ask_taken = listing letter_k
form_of power = plain letter_z
form_of other = plain question

-- "a refused call prints the letter, a space, `!` and the number"; "the answer in the same form": the first bytes of the room; a word;
-- the bytes that are listed, `-` for none; or the letter alone
unfoldable pub said_line : Form → Said Giving → List ℕ → List ℕ
said_line f (refused n) bs = refused_line f.letter n
said_line f (gave done) bs = cond f.lists (bytes_line f.letter bs) (bare_line f.letter)
said_line f (gave (bytes n)) bs = bytes_line f.letter (take n bs)
said_line f (gave (reads w)) bs = word_line f.letter w

-- what a line that asks for a call prints
unfoldable pub line_text : Asked → Told → List ℕ
line_text a t = said_line (form_of a) t.said t.bytes
