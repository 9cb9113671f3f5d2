-- What a line of the program aircraft is answered, and what is on its way after it.
-- Assumes nothing.
use Rattle.std.specs.Prelude.{ℕ, Bool, ◌&&◌, cond, List, [], ◌∷◌}
use Rattle.packets.specs.declared.Command.{Command}
use Rattle.packets.specs.Commands.{command_row}
use Rattle.packets.specs.Answers.{command_bytes}
use Rattle.items.specs.Characters.{question, space, dash, newline}
use Rattle.items.specs.Printed.{bytes_line, bare_line, refused_line}
use Rattle.airframe.specs.declared.Sending.{Sending}
use Rattle.airframe.specs.Building.{command_fits, command_wide, first_fits, acknowledgement_bytes}
use Rattle.airframe.specs.Sending.{is_over, Outcome, silence, answer, sent, heard_of}
use Rattle.aircraft_lines.specs.Letters.{letter_q, letter_y, letter_p, letter_n}
use Rattle.aircraft_lines.specs.Asked.{Ask, sends, takes, hears, waits, again, other}
use Rattle.aircraft_answers.specs.Words.{outcome_text}

-- what is on its way: how often it may still be sent, and its bytes
pub record Way : Type 0 where
  pub sending : Sending
  pub bytes : List ℕ

abbrev pub way : Sending → List ℕ → Way
way s b = record { sending = s; bytes = b }

-- a line printed, and what is on its way after it
pub record Spoken : Type 0 where
  pub text : List ℕ
  pub way : Way

abbrev pub spoken : List ℕ → Way → Spoken
spoken t w = record { text = t; way = w }

abbrev pub heard : Outcome → Way → Spoken
heard o w = spoken (outcome_text o) (way o.sending w.bytes)

-- "builds, and puts it on its way"; "A refused `Q` keeps what was on its way and its count; an accepted one replaces it, with four sends"
abbrev pub sent_if : Bool → Command → Way → Spoken
sent_if taken c w =
    cond taken (spoken (bytes_line letter_p (command_bytes c)) (way (sent (command_row c).code) (command_bytes c)))
    (spoken (refused_line letter_q 20) w)

unfoldable pub spoken_of : Ask → Way → Spoken
spoken_of (sends c) w = sent_if (command_wide c && command_fits c) c w
spoken_of (takes first form) w =
    cond (first_fits first) (spoken (bytes_line letter_p (acknowledgement_bytes first form)) w)
    (spoken (refused_line letter_y 20) w)
spoken_of (hears bs) w = heard (heard_of w.sending (answer bs)) w
spoken_of waits w = heard (heard_of w.sending silence) w
-- "sends again what is on its way"; "`N -` with nothing on its way"; "`Y` and `N` use up no send"
spoken_of again w = spoken (cond (is_over w.sending) (letter_n ∷ space ∷ dash ∷ newline ∷ []) (bytes_line letter_p w.bytes)) w
spoken_of other w = spoken (bare_line question) w
