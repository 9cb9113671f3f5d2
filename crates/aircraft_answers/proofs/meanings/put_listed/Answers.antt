-- The word, and the bytes behind it.
use native.Mathlib.Omega.{arith}
use mathlib.Core.Path.{refl}
use Rattle.items.proofs.Behind.{both, renamed}
use Rattle.aircraft_answers.proofs.meanings.put_listed.Goals as goal

pub returns : goal.returns
returns c = renamed _ 773 refl (omega arith) (both c.append.ensures c.items.ensures)
