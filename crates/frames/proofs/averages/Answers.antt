use Rattle.std.proofs.Common.{◌≡◌, arith}
use Rattle.frames.proofs.Sums.{averages_divided}
use Rattle.frames.proofs.averages.Goals as goal

pub returns : goal.returns
returns c =
    let end : c.loop-p.p ≡ 16 = omega arith in
    cc (averages_divided 16 c.args.samples.now)
