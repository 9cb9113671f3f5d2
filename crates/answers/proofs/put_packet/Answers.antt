-- At most 260 bytes.
use Rattle.std.proofs.Common.{arith}
use Rattle.items.proofs.Behind.{longer}
use Rattle.answers.proofs.put_packet.Goals as goal

pub returns : goal.returns
returns c = longer 784 (omega arith) c.put_line.ensures
