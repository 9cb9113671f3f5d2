use Rattle.std.proofs.Common.{rules, ◌≡◌, ◌<◌, ◌≤◌, true, false, length, get_or, arith, suc}
use borrow.Author.Tests.{eq-eqb, ne_eqb}
use Rattle.params.specs.Rules.{struck}
use Rattle.params.proofs.Missing.{passing, other, passes, fails, none_left}
use Rattle.params.proofs.kept.struck.Goals as goal
use Rattle.params.proofs.kept.struck.Goals.{then-k-id, else-k-id}

pub loop-k-init : goal.loop-k-init
unfolding passing struck
loop-k-init c = search rules

pub loop-k-preserved : goal.loop-k-preserved
loop-k-preserved c =
    let at = c.loop-k in
    let a = c.args in
    let within : at.k-index < length a.list = search rules in
    elim c.if-k-id.branch [
      | then-k-id w ↦
          let stays : other a.id (get_or a.list at.k-index 0) ≡ true = rw (ne_eqb (get_or a.list at.k-index 0) a.id w.if-k-id.true) in
          let turn = rw (passes (other a.id) a.list at.k-index within stays) at at.invariant.left in
          let more : c.if-k-id.n ≡ suc at.n = omega arith in
          record { within = omega arith; left = cc }
      | else-k-id w ↦
          let goes : other a.id (get_or a.list at.k-index 0) ≡ false = rw (eq-eqb (get_or a.list at.k-index 0) a.id w.if-k-id.false) in
          let turn = rw (fails (other a.id) a.list at.k-index within goes) at at.invariant.left in
          record { within = omega arith; left = cc }
    ]

pub returns : goal.returns
returns c =
    let at = c.loop-k in
    let short : length c.args.list ≤ at.k-index = search rules in
    rw (none_left (other c.args.id) c.args.list at.k-index short) at at.invariant.left
