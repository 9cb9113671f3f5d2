-- The sentences on the lines of aircraft and what is on its way, each a statement.
-- Assumes nothing.
use Rattle.std.specs.Prelude.{ℕ, suc, ◌≡◌, Bool, true, false, not, ◌&&◌, cond, List, [], ◌∷◌, length}
use Rattle.packets.specs.declared.Command.{Command}
use Rattle.packets.specs.Commands.{command_row}
use Rattle.packets.specs.Answers.{command_bytes}
use Rattle.airframe.specs.declared.Form.{Form}
use Rattle.airframe.specs.declared.Sending.{Sending}
use Rattle.airframe.specs.Building.{command_fits, command_wide, first_fits, acknowledgement_bytes}
use Rattle.airframe.specs.Sending.{is_over, Came, silence, answer, sent, heard_of}
use Rattle.lines.specs.Cut.{before}
use Rattle.items.specs.Characters.{space, dash, newline}
use Rattle.items.specs.Printed.{bytes_line, refused_line}
use Rattle.aircraft_lines.specs.Letters.{letter_q, letter_y, letter_p, letter_n}
use Rattle.airframe.specs.Given.{command_typed}
use Rattle.aircraft_lines.specs.Asked.{Ask, sends, takes, hears, waits, again, other}
use Rattle.aircraft_answers.specs.Spoken.{Way, spoken, spoken_of}

-- "a line each": what is printed for a line is one line, its only newline at its end
abbrev pub OneLine : Type 0
OneLine = (a : Ask) (w : Way) → suc (before (spoken_of a w).text) ≡ length (spoken_of a w).text

-- "a decimal number too large for its field's type is 20"
abbrev pub TooLarge : Type 0
TooLarge = (c : Command) (w : Way) → command_typed c ≡ false → spoken_of (sends c) w ≡ spoken (refused_line letter_q 20) w

-- a `Q` that is accepted
abbrev pub accepted : Ask → Bool
accepted (sends c) = command_wide c && command_fits c
accepted (takes first form) = false
accepted (hears bs) = false
accepted waits = false
accepted again = false
accepted other = false

-- lines after one another, none of them such a one
unfoldable pub none_accepted : List Ask → Bool
none_accepted [] = true
none_accepted (a ∷ more) = not (accepted a) && none_accepted more

unfoldable pub way_after : List Ask → Way → Way
way_after [] w = w
way_after (a ∷ more) w = way_after more (spoken_of a w).way

-- "What is sent again is the same bytes": while the command of a `Q` is on its way, whatever lines came between, `N` prints what the `Q`
-- printed
abbrev pub SameBytes : Type 0
SameBytes =
    (c : Command) (w : Way) (more : List Ask) → accepted (sends c) ≡ true → none_accepted more ≡ true
    → is_over (way_after (sends c ∷ more) w).sending ≡ false
    → (spoken_of again (way_after (sends c ∷ more) w)).text ≡ (spoken_of (sends c) w).text

-- "A refused `Q` keeps what was on its way and its count"
abbrev pub RefusedKeeps : Type 0
RefusedKeeps = (c : Command) (w : Way) → accepted (sends c) ≡ false → (spoken_of (sends c) w).way ≡ w

-- "`Y` and `N` use up no send"
abbrev pub NoSendUsed : Type 0
NoSendUsed = (first : ℕ) (form : Form) (w : Way) → ((spoken_of (takes first form) w).way ≡ w) × ((spoken_of again w).way ≡ w)

-- "builds, and puts it on its way", and prints "`P` bytes, as `session` reads them; `Q !20`": of the command exactly its own bytes
abbrev pub CommandPrinted : Type 0
CommandPrinted =
    (c : Command) (w : Way)
    → (spoken_of (sends c) w).text ≡ cond (accepted (sends c)) (bytes_line letter_p (command_bytes c)) (refused_line letter_q 20)

-- "an acknowledgement of code cc, the 0x01 form, or the 0x09 form with error ee", printed as "`P` bytes; `Y !20`"
abbrev pub AcknowledgementPrinted : Type 0
AcknowledgementPrinted =
    (first : ℕ) (form : Form) (w : Way)
    → (spoken_of (takes first form) w).text ≡ cond (first_fits first) (bytes_line letter_p (acknowledgement_bytes first form)) (refused_line letter_y 20)

-- "`N -` with nothing on its way"
abbrev pub NothingAgain : Type 0
NothingAgain = (w : Way) → is_over w.sending ≡ true → (spoken_of again w).text ≡ letter_n ∷ space ∷ dash ∷ newline ∷ []

-- the replies among lines: `P` bytes, and `P -`
unfoldable pub came_in : List Ask → List Came
came_in [] = []
came_in (sends c ∷ more) = came_in more
came_in (takes first form ∷ more) = came_in more
came_in (hears bs ∷ more) = answer bs ∷ came_in more
came_in (waits ∷ more) = silence ∷ came_in more
came_in (again ∷ more) = came_in more
came_in (other ∷ more) = came_in more

unfoldable pub sending_after : Sending → List Came → Sending
sending_after s [] = s
sending_after s (x ∷ xs) = sending_after (heard_of s x).sending xs

-- "an accepted one replaces it, with four sends"; "`Y` and `N` use up no send": whatever was on its way before the `Q`, and whatever
-- lines came after it, what is left of its sends goes by the replies alone
abbrev pub OnlyReplies : Type 0
OnlyReplies =
    (c : Command) (w : Way) (more : List Ask) → accepted (sends c) ≡ true → none_accepted more ≡ true
    → (way_after (sends c ∷ more) w).sending ≡ sending_after (sent (command_row c).code) (came_in more)

-- ---- all of them

pub record Answers : Type 0 where
  pub one_line : OneLine
  pub too_large : TooLarge
  pub same_bytes : SameBytes
  pub refused_keeps : RefusedKeeps
  pub no_send_used : NoSendUsed
  pub command_printed : CommandPrinted
  pub acknowledgement_printed : AcknowledgementPrinted
  pub nothing_again : NothingAgain
  pub only_replies : OnlyReplies
