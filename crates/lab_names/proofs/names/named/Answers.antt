-- `lab_names::names::named`: each name is compared in turn. Assumes nothing.
use Rattle.std.proofs.Common.{◌≤◌, length, arith, sym, ap, ◌∙◌}
use Rattle.lab_names.specs.Names.{names, part_named}
use Rattle.lab_names.proofs.Spelling.{look, look_is, part_here, part_past, part_end}
use borrow.Author.Tests.{le-leb, lt-leb}
use lib.Pointwise.{bytes_decides}
use Rattle.rows.proofs.Bool.{never}
use Rattle.lab_names.proofs.names.named.Goals as goal

pub returns-then-head-gt-LONGEST : goal.returns-then-head-gt-LONGEST
unfolding part_named
returns-then-head-gt-LONGEST c = rw (lt-leb (length c.args.head.now) 14 (omega arith))

pub loop-name-init : goal.loop-name-init
unfolding part_named
loop-name-init c =
    let short : length c.args.head.now ≤ 14 = omega arith in
    ap (look c.pad-text.result) c.table-names.ensures
    ∙ look_is c.pad-text.result names
    ∙ rw (c.pad-text.ensures, le-leb (length c.args.head.now) 14 short)

pub returns-then-eq : goal.returns-then-eq
returns-then-eq c =
    let l = c.loop-name in
    let text = c.pad-text.result in
    let xs = c.table-names.result in
    part_here text xs l.name-index _ (omega arith) ((bytes_decides _ text).0 (sym c.eq.ensures ∙ c.if-eq.true)) ∙ l.invariant

pub loop-name-preserved : goal.loop-name-preserved
loop-name-preserved c =
    let l = c.loop-name in
    let text = c.pad-text.result in
    let xs = c.table-names.result in
    part_past text xs l.name-index _ (omega arith) (λ e. never (c.eq.ensures ∙ (bytes_decides _ text).1 e) c.if-eq.false)
    ∙ l.invariant

pub returns : goal.returns
returns c = part_end c.pad-text.result c.table-names.result c.loop-name.name-index (omega arith) ∙ c.loop-name.invariant
