-- What waits fits.
use Rattle.std.proofs.Common.{arith}
use Rattle.blocks.proofs.Places.{bounds}
use Rattle.rules.proofs.Inside.{pod_in}
use Rattle.commands.proofs.obeying.report.Goals as goal

pub overflow_cast-result : goal.overflow_cast-result
overflow_cast-result c = omega (arith, (bounds 16 c.args.pod.now.priority (pod_in c.args.pod.now c.requires).priority).1)

pub overflow_cast-result-2 : goal.overflow_cast-result-2
overflow_cast-result-2 c = omega (arith, (bounds 128 c.args.pod.now.ordinary (pod_in c.args.pod.now c.requires).ordinary).1)
