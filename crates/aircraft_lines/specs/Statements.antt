-- The sentences on the lines of aircraft as they are read, each a statement.
-- Assumes nothing.
use Rattle.std.specs.Prelude.{ℕ, suc, ◌≡◌, true, false, List, [], ◌∷◌, ◌++◌, map, ℤ, pos, negsuc, neg_ℤ, Option, Some, option_map}
use Rattle.packets.specs.declared.Command.{Command}
use Rattle.packets.specs.Commands.{command_row, values_of}
use Rattle.airframe.specs.Statements.{AllBytes}
use Rattle.items.specs.Characters.{space, dash, newline}
use Rattle.items.specs.Printed.{bytes_line}
use Rattle.decimals.specs.declared.Number.{Number}
use Rattle.decimals.specs.Reading.{number}
use Rattle.lines.specs.Asked.{packet, line_of}
use Rattle.aircraft_lines.specs.Letters.{letter_p}
use Rattle.aircraft_lines.specs.Asked.{sends, hears, waits, value_of, command_asked, ask_in}

-- "mode flags seconds milliseconds, priority limit and remaining, memory limit and remaining, poll", "`Q 93 id value`, `Q 94 id`": what
-- is built has the line's own code, and its numbers in their order
abbrev pub CommandCarried : Type 0
CommandCarried =
    (code : ℕ) (l : List (Option Number)) (c : Command) → command_asked code l ≡ sends c
    → ((command_row c).code ≡ code) × (map Some (values_of c) ≡ map (option_map value_of) l)

-- a command's numbers as a line has them
abbrev pub number_for : ℤ → Number
number_for (pos n) = number false n
number_for (negsuc n) = number true (suc n)

-- and of every command there is such a line: `Q`, its code and its numbers
abbrev pub EachAsked : Type 0
EachAsked = (c : Command) → command_asked (command_row c).code (map (λ v. Some (number_for v)) (values_of c)) ≡ sends c

-- "a value may have a leading `-`"; "`-0` is 0"
abbrev pub LeadingMinus : Type 0
LeadingMinus = (n : ℕ) → (value_of (number false n) ≡ pos n) × (neg_ℤ (value_of (number true n)) ≡ pos n)

-- "`P` bytes, as `session` reads them": the line that is printed, less its newline
abbrev pub SessionReads : Type 0
SessionReads =
    (b : ℕ) (bs t : List ℕ) → AllBytes (b ∷ bs) → bytes_line letter_p (b ∷ bs) ≡ t ++ (newline ∷ []) → (line_of t).asked ≡ packet (b ∷ bs)

-- "an answer, as `session` prints it"
abbrev pub AnswerHeard : Type 0
AnswerHeard = (b : ℕ) (bs t : List ℕ) → AllBytes (b ∷ bs) → bytes_line letter_p (b ∷ bs) ≡ t ++ (newline ∷ []) → ask_in t ≡ hears (b ∷ bs)

-- "`P -` is no reply"; "`P` alone is an answer of no bytes"
abbrev pub NoBytes : Type 0
NoBytes = (ask_in (letter_p ∷ space ∷ dash ∷ []) ≡ waits) × (ask_in (letter_p ∷ []) ≡ hears [])

-- ---- all of them

pub record Lines : Type 0 where
  pub command_carried : CommandCarried
  pub each_asked : EachAsked
  pub leading_minus : LeadingMinus
  pub session_reads : SessionReads
  pub answer-heard : AnswerHeard
  pub no_bytes : NoBytes
