-- A number has twenty digits at the most. Assumes nothing.
use Rattle.std.proofs.Common.{arith}
use Rattle.items.proofs.Behind.{shortened}
use Rattle.decimals.proofs.Tens.{decimal-most}
use Rattle.decimals.proofs.printing.put_number.Goals as goal

pub put_digits-requires : goal.put_digits-requires
put_digits-requires c = omega (arith, decimal-most c.args.n)

pub returns : goal.returns
returns c = shortened 20 (decimal-most c.args.n) c.put_digits.ensures
