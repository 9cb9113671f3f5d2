use Rattle.std.proofs.Common.{rules}
use Rattle.params.proofs.Numbers.{judged}
use Rattle.params.proofs.kept.listed.Goals as goal

pub returns : goal.returns
returns c =
    let rule = judged c.args.p.now c.packed.result (search rules) (search rules) (search rules) in
    cc
