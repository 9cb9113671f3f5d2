-- A byte has three digits at the most. Assumes nothing.
use Rattle.std.proofs.Common.{arith, ◌≡◌, ap}
use Rattle.items.specs.Printed.{decimal}
use Rattle.items.proofs.Behind.{renamed}
use Rattle.decimals.proofs.Tens.{byte-most}
use Rattle.decimals.proofs.printing.U8Numeral.put.Goals as goal

pub put_digits-requires : goal.put_digits-requires
put_digits-requires c =
    let same : c.from.result ≡ c.args.self = c.from.ensures in
    rw same (omega (arith, byte-most c.args.self (omega arith)))

pub returns : goal.returns
returns c =
    let same : c.from.result ≡ c.args.self = c.from.ensures in
    renamed (decimal c.args.self) 3 (ap decimal same) (rw same (byte-most c.args.self (omega arith))) c.put_digits.ensures
