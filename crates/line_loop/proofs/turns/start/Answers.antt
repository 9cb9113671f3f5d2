-- A fresh pod stays fresh.
use Rattle.std.proofs.Common.{rules, refl}
use Rattle.line_loop.proofs.turns.start.Goals as goal

pub returns : goal.returns
returns c =
    record { program = refl; pod = c.power.ensures c.fresh_pod.ensures; sizes = c.right_sizes.ensures; written = refl; room = search rules }
