-- What is promised of a line's answer.
-- Assumes nothing.
use Rattle.std.specs.Prelude.{ℕ, ◌≡◌, List, length, take, Option}
use Rattle.items.specs.declared.output.Output.{Output}
use Rattle.items.specs.Output.{Written}
use Rattle.aircraft_lines.specs.declared.Line.{Line}
use Rattle.aircraft_lines.specs.Asked.{Ask, say_ask, heard_bytes}
use Rattle.aircraft_answers.specs.declared.Underway.{Underway}
use Rattle.aircraft_answers.specs.Spoken.{Way, way, Spoken}

-- what is on its way: the first bytes of the room
abbrev pub way_in : Underway → Way
way_in u = way u.sending (take u.count u.room)

-- a line that was read says what it asks; the bytes of an answer stand at the front of the lent ones
pub record Says (a : Ask) (line : Option Line) (bytes : List ℕ) : Type 0 where
  pub said : line ≡ say_ask a
  pub heard : take (length (heard_bytes a)) bytes ≡ heard_bytes a

-- what is spoken is written behind what is gathered, and what is on its way after it is kept
pub record Spoke (s : Spoken) (u : Underway) (o o' : Output) : Type 0 where
  pub text : Written s.text 800 o o'
  pub way : way_in u ≡ s.way
