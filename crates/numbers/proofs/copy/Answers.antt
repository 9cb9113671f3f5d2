-- `numbers::copy`: one element more is stored.
use Rattle.std.proofs.Common.{arith}
use Rattle.numbers.proofs.Stores.{stored_more}
use Rattle.numbers.proofs.copy.Goals as goal

pub loop-i-preserved : goal.loop-i-preserved
loop-i-preserved g c = rw c.loop-i.invariant (stored_more c.args.to.now c.args.run.now c.args.at c.loop-i.i c.index-run-i.result (omega arith) c.index-run-i.is)
