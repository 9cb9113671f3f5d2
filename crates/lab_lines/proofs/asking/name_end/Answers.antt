-- The space that is found ends the name.
use Rattle.std.proofs.Common.{ap, take, drop, ℕ, arith}
use Rattle.decimals.proofs.Pieces.{found_at, found_within}
use Rattle.lab_lines.proofs.asking.name_end.Goals as goal

pub returns : goal.returns
returns c =
    let t = c.args.text.now in
    let e = found_at t 2 c.find.result c.find.ensures in
    (ap (λ (k : ℕ). take k t) e, ap (λ (k : ℕ). drop k t) e, found_within t 2 c.find.result (omega arith) e)
