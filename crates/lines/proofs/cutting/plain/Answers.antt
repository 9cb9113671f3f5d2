-- A character at or above the space is no newline.
use Rattle.std.proofs.Common.{arith, get_or, ◌≤◌}
use lib.Dec.{leb}
use borrow.Author.Tests.{leb-true}
use Rattle.rows.proofs.Bool.{and_left, and_right}
use Rattle.lines.proofs.Before.{past, none_left}
use Rattle.lines.proofs.cutting.plain.Goals as goal

pub loop-c-preserved : goal.loop-c-preserved
loop-c-preserved c = λ e.
    let l = c.loop-c in
    let t = c.args.part.now in
    let at = get_or t l.c-index 0 in
    let high : 32 ≤ at = leb-true 32 at (and_right l.all (leb 32 at) e) in
    omega (arith, past t l.c-index (omega arith) (λ n. omega arith), l.invariant (and_left l.all (leb 32 at) e))

pub returns : goal.returns
returns c = λ e. let l = c.loop-c in omega (arith, l.invariant e, none_left c.args.part.now l.c-index (omega arith))
