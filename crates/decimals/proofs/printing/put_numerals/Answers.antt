-- The next number goes behind a space. Assumes nothing.
use Rattle.std.proofs.Common.{arith, ◌+◌}
use Rattle.std.proofs.Math.Nat.{mul-add, mul-le-mul_left}
use Rattle.items.proofs.Behind.{both, one_more, whole}
use Rattle.decimals.proofs.Spell.{numbers_on, numbers_end}
use Rattle.decimals.proofs.printing.put_numerals.Goals as goal

pub loop-n-preserved : goal.loop-n-preserved
loop-n-preserved g c =
    let d = g.T.Numeral in
    let l = c.loop-n in
    one_more _ _ (numbers_on d.value c.args.numbers.now l.n-index c.n-item.result c.loop-n-test.true c.n-item.is)
    (omega (arith, mul-add (d.most + 1) l.n-index 1)) l.invariant
    (both {m = 1} {n = d.most} c.put_space.ensures c.put.ensures)

pub returns : goal.returns
returns g c =
    let d = g.T.Numeral in
    let l = c.loop-n in
    whole _ (numbers_end d.value c.args.numbers.now l.n-index c.loop-n-test.false) (mul-le-mul_left (d.most + 1) c.loop-n.auto.n-index-end) l.invariant
