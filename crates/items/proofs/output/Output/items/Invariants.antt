use Rattle.std.proofs.Common.{◌*◌, drop}
use Rattle.items.specs.Text.{spell}
use Rattle.items.proofs.Behind.{Left}
use Rattle.items.proofs.output.Output.items.Given as goal

-- what is left of the bytes goes behind what is written
abbrev pub invariant-loop-b : goal.invariant-loop-b
invariant-loop-b l = Left (spell l.bytes) (spell (drop l.b-index l.bytes)) (3 * l.b-index) l.initial.self l.self
