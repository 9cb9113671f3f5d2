-- Each turn is one more of the turns, and the cursor goes on.
use Rattle.std.proofs.Common.{rules, arith, ◌<◌, refl, sym, subst, length}
use Rattle.lines.specs.declared.Cut.{Cut}
use Rattle.lines.specs.Turns.{start, another}
use Rattle.lines.proofs.Turning.{cut_on, turn_found, turn_more}
use Rattle.pieces.proofs.turns.gather.Goals as goal

pub loop-cursor-init : goal.loop-cursor-init
loop-cursor-init g c = record { turns = start _; inside = c.requires.inside; fine = c.requires.fine }

pub loop-cursor-smaller-in-Some : goal.loop-cursor-smaller-in-Some
loop-cursor-smaller-in-Some g c =
    let l = c.next_line-cut in
    let i = c.loop-cursor.cursor in
    let h : i.from < length c.args.piece.now = search rules in
    omega (arith, h, l.ensures.from_in_bounds.0, subst (λ (k : Cut). i.from < k.cursor.from) (sym l.ensures.value) (cut_on c.args.piece.now i h))

pub loop-cursor-preserved-in-Some : goal.loop-cursor-preserved-in-Some
loop-cursor-preserved-in-Some g c =
    let inv = c.loop-cursor.invariant in
    let l = c.next_line-cut in
    record {
      turns = another _ _ _ inv.turns (turn_found _ _ _ _ l.result l.ensures.value refl l.ensures.line_after c.in-Some.found c.in-Some.is (rw c.text.ensures.result_value at c.answer.ensures.answers));
      inside = record { start = l.ensures.from_in_bounds.0; longest = l.ensures.from_in_bounds.1 };
      fine = c.answer.ensures.fine;
    }

pub loop-cursor-smaller : goal.loop-cursor-smaller
loop-cursor-smaller g c =
    let l = c.next_line-cut in
    let i = c.loop-cursor.cursor in
    let h : i.from < length c.args.piece.now = search rules in
    omega (arith, h, l.ensures.from_in_bounds.0, subst (λ (k : Cut). i.from < k.cursor.from) (sym l.ensures.value) (cut_on c.args.piece.now i h))

pub loop-cursor-preserved : goal.loop-cursor-preserved
loop-cursor-preserved g c =
    let inv = c.loop-cursor.invariant in
    let l = c.next_line-cut in
    record {
      turns = another _ _ _ inv.turns (turn_more _ _ _ _ l.result l.ensures.value refl l.ensures.line_after c.in_default.is refl);
      inside = record { start = l.ensures.from_in_bounds.0; longest = l.ensures.from_in_bounds.1 };
      fine = inv.fine;
    }
