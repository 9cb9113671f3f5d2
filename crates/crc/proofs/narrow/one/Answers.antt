-- `crc::narrow::one`: the law of its shifts.
use Rattle.std.proofs.Common.{arith}
use Rattle.crc.proofs.Fold.{by_shifts}
use Rattle.crc.proofs.narrow.one.Goals as goal

pub returns : goal.returns
returns c = rw c.from-y.ensures (by_shifts c.args.c c.args.b (omega arith) (omega arith))
