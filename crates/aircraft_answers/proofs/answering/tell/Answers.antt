-- The line, and what the outcome leaves on its way.
use native.Mathlib.Omega.{arith}
use mathlib.Core.Path.{refl}
use Rattle.items.proofs.Behind.{renamed}
use Rattle.airframe.specs.Sending.{heard_said}
use Rattle.aircraft_answers.proofs.answering.tell.Goals as goal

pub returns : goal.returns
unfolding heard_said
returns c = record { text = renamed _ 800 refl (omega arith) c.put_outcome.ensures; way = refl }
