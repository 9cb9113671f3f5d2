-- A program's memory is as long as `Within` says.
use Rattle.std.proofs.Common.{arith}
use Rattle.line_calls.proofs.answering.parted.Goals as goal

pub answer-requires-clause-sizes_fit : goal.answer-requires-clause-sizes_fit
answer-requires-clause-sizes_fit c =
    let w = c.requires.within in
    record {
      room = omega (arith, w.room);
      priority = omega (arith, w.priority);
      ordinary = omega (arith, w.ordinary);
      five = omega (arith, w.five);
      six = omega (arith, w.six);
      seven = omega (arith, w.seven);
    }
