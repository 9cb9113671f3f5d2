-- What a line is to a program.
-- Assumes nothing.
use Rattle.std.specs.Prelude.{ℕ, Bool, false, List, [], Option, Some, None}
use Rattle.rules.specs.World.{Call}
use Rattle.lines.specs.Asked.{Asked, Asking, packet_in, line_of}
use Rattle.line_calls.specs.declared.Sizes.{Sizes}
use Rattle.line_calls.specs.Calls.{call_of}
use Rattle.line_calls.specs.Memory.{right_sizes}
use Rattle.lab_calls.specs.Own.{is_own}
use Rattle.line_answers.specs.declared.Program.{Program}
use Rattle.line_answers.specs.declared.Program.TheVariants.{Session, Console, Lab}

-- what a text asks: of session a packet or nothing, of the console what its table says, and of lab too
unfoldable pub asking_of : Program → List ℕ → Asking
asking_of Session t = packet_in t
asking_of Console t = line_of t
asking_of Lab t = line_of t

-- "`console` with a larger table of lines": whether a text is none of the console's
unfoldable pub own_in : Program → List ℕ → Bool
own_in Session t = false
own_in Console t = false
own_in Lab t = is_own t

-- other sizes are for one call: after it everything is lent at its right size again
abbrev pub sizes_if : Option Call → Sizes → Sizes
sizes_if None s = s
sizes_if (Some c) s = right_sizes

unfoldable pub sizes_after : Asked → Sizes → Sizes
sizes_after a s = sizes_if (call_of a []) s
