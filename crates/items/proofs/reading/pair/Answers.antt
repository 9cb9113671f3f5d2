-- The laws of two digits at once. Assumes nothing.
use Rattle.std.proofs.Common.{arith}
use Rattle.items.proofs.Pairs.{values, written, paired, unpaired}
use Rattle.items.proofs.reading.pair.Goals as goal

pub returns-then-written-both : goal.returns-then-written-both
returns-then-written-both c =
    let x = c.args in
    let v = values x.high x.low (omega arith) (omega arith) in
    let w = written x.high x.low (omega arith) (omega arith) in
    unpaired x.high x.low (omega arith) (omega arith) (rw (v, w) at c.if-written-both.true)

pub returns : goal.returns
returns c =
    let x = c.args in
    let v = values x.high x.low (omega arith) (omega arith) in
    let w = written x.high x.low (omega arith) (omega arith) in
    rw v (paired x.high x.low (omega arith) (omega arith) (rw (v, w) at c.if-written-both.false))
