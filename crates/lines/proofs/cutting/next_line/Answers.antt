-- By where the line ends, and whether some of it was held.
use Rattle.std.proofs.Common.{arith, ◌-◌, take, drop, length}
use Rattle.lines.proofs.Held.{held-most, here_is, more_is, held_is}
use Rattle.lines.proofs.cutting.next_line.Goals as goal

pub returns-then-end-piece-clause-value : goal.returns-then-end-piece-clause-value
returns-then-end-piece-clause-value c =
    let a = c.args in
    (here_is a.piece.now a.cursor a.line.now c.line_end-end.result c.line_end-end.ensures.value c.if-end-piece.true).0

pub returns-then-end-piece-clause-line_after : goal.returns-then-end-piece-clause-line_after
returns-then-end-piece-clause-line_after c =
    let a = c.args in
    (here_is a.piece.now a.cursor a.line.now c.line_end-end.result c.line_end-end.ensures.value c.if-end-piece.true).1

pub returns-then-end-piece-2-clause-value : goal.returns-then-end-piece-2-clause-value
returns-then-end-piece-2-clause-value c =
    let a = c.args in
    let k = c.hold-kept in
    (more_is a.piece.now a.cursor a.line.now c.line_end-end.result c.line_end-end.ensures.value k.result k.new.line c.if-end-piece.false c.if-end-piece-2.true k.ensures.value k.ensures.line_after).0

pub returns-then-end-piece-2-clause-line_after : goal.returns-then-end-piece-2-clause-line_after
returns-then-end-piece-2-clause-line_after c =
    let a = c.args in
    let k = c.hold-kept in
    (more_is a.piece.now a.cursor a.line.now c.line_end-end.result c.line_end-end.ensures.value k.result k.new.line c.if-end-piece.false c.if-end-piece-2.true k.ensures.value k.ensures.line_after).1

pub returns-then-end-piece-2-clause-from_in_bounds : goal.returns-then-end-piece-2-clause-from_in_bounds
returns-then-end-piece-2-clause-from_in_bounds c =
    let part = take (c.line_end-end.result - c.args.cursor.from) (drop c.args.cursor.from c.args.piece.now) in
    (c.line_end-end.ensures.upper_bound, omega (arith, c.hold-kept.ensures.value, held-most c.args.cursor.held (length part)))

pub returns-clause-value : goal.returns-clause-value
returns-clause-value c =
    let a = c.args in
    let k = c.hold-kept in
    (held_is a.piece.now a.cursor a.line.now c.line_end-end.result c.line_end-end.ensures.value c.last.result k.result k.new.line c.if-end-piece.false c.if-end-piece-2.false c.last.ensures.value k.ensures.value k.ensures.line_after).0

pub returns-clause-line_after : goal.returns-clause-line_after
returns-clause-line_after c =
    let a = c.args in
    let k = c.hold-kept in
    (held_is a.piece.now a.cursor a.line.now c.line_end-end.result c.line_end-end.ensures.value c.last.result k.result k.new.line c.if-end-piece.false c.if-end-piece-2.false c.last.ensures.value k.ensures.value k.ensures.line_after).1
