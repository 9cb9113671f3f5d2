-- What is promised of a line of the program aircraft.
-- Assumes nothing.
use Rattle.std.specs.Prelude.{ℕ, List, []}
use Rattle.airframe.specs.declared.Sending.TheVariants.{Over}
use Rattle.aircraft_lines.specs.Asked.{ask_in}
use Rattle.aircraft_answers.specs.Spoken.{Way, way, spoken_of}
use Rattle.aircraft_answers.specs.Promise.{way_in, Spoke}
use Rattle.aircraft_loop.specs.declared.Between.{Between}

-- a text is answered by what it asks
abbrev pub TextAnswered : List ℕ → Between → Between → Type 0
TextAnswered text s t = Spoke (spoken_of (ask_in text) (way_in s.way)) t.way s.out t.out

-- nothing is on its way
abbrev pub begun : Way
begun = way Over []
