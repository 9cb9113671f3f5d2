-- The rows, one after another.
use mathlib.Core.Path.{ap}
use mathlib.Core.Bool.{not}
use borrow.Author.Tests.{lt-ltb}
use Rattle.rows.specs.Rows.{here, after}
use Rattle.airframe.specs.Building.{refusal_number}
use Rattle.airframe.proofs.building.judged.Goals as goal

pub returns-then-not-inside : goal.returns-then-not-inside
unfolding refusal_number
returns-then-not-inside c = here (ap not c.if-not-inside.true)

pub returns-then-room-lt-COMMAND : goal.returns-then-room-lt-COMMAND
unfolding refusal_number
returns-then-room-lt-COMMAND c = after (ap not c.if-not-inside.false) (here (lt-ltb _ 25 c.if-room-lt-COMMAND.true))
