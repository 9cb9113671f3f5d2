-- The four ways in which a turn ends.
use Rattle.std.proofs.Common.{rules, arith, ◌≤◌}
use Rattle.pieces.specs.Desks.{failed, stays, ends, reads}
use Rattle.pieces.proofs.next_piece.Goals as goal

pub returns-then-not-written : goal.returns-then-not-written
returns-then-not-written c = failed (search rules)

pub returns-then-from-desk : goal.returns-then-from-desk
returns-then-from-desk c = stays (search rules) (omega arith)

pub returns-then-n-eq0 : goal.returns-then-n-eq0
returns-then-n-eq0 c = rw c.if-n-eq0.true (ends (search rules) (omega arith))

pub returns-else-n-eq0 : goal.returns-else-n-eq0
returns-else-n-eq0 c =
    let most : c.unwrap_or-n.result ≤ 65536 = search rules in
    reads (search rules) (omega arith) c.unwrap_or-n.result (omega arith) most
