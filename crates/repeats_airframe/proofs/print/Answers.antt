-- `repeats_airframe::print` is safe: a line of 256 bytes has 772 characters at the most.
-- Assumes nothing.
use Rattle.std.proofs.Common.{arith, ap, length, length-take}
use Rattle.repeats_airframe.proofs.print.Goals as goal

pub bytes_line-requires : goal.bytes_line-requires
bytes_line-requires c = omega (arith, ap length c.front.ensures.result_value, length-take 256 c.args.bytes.now)
