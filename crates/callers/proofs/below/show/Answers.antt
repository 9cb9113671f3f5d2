-- Seven characters, and forty-four at the most.
use Rattle.std.proofs.Common.{arith}
use Rattle.decimals.proofs.Under.{as_long}
use Rattle.callers.proofs.below.show.Goals as goal

pub append-requires-2 : goal.append-requires-2
append-requires-2 c =
    let w = c.put_run.ensures in
    omega (arith, w.place, w.short, as_long w, c.append.ensures.place, c.append.ensures.room)
