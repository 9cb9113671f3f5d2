-- A part without a newline is left behind.
use Rattle.std.proofs.Common.{arith, rules, ◌≡◌, ◌∙◌, ap, refl, take, drop, length, ◌-◌, ◌+◌}
use lib.ListN.{length-take, length-drop}
use lib.Seq.{drop-drop}
use Rattle.lines.specs.Cut.{before}
use Rattle.lines.proofs.Before.{over}
use Rattle.lines.proofs.cutting.past_plain.Goals as goal

pub loop-part-preserved : goal.loop-part-preserved
loop-part-preserved c =
    let l = c.loop-part in
    let t = c.args.text.now in
    let s = c.in-Some.ensures.cases in
    let whole : length c.in-Some.part.now ≡ 16 = search rules in
    let less : length c.in-Some.behind.now + 16 ≡ length l.rest.now =
    omega (arith, ap length s.0, ap length s.1, length-take 16 l.rest.now, length-drop 16 l.rest.now) in
    let clear : before (take 16 l.rest.now) ≡ 16 = rw s.0 at (c.plain.ensures c.if-not-plain.false) in
    let place : length t - length c.in-Some.behind.now ≡ length t - length l.rest.now + 16 = omega (arith, l.invariant.short) in
    record {
      short = omega (arith, l.invariant.short);
      rest = s.1 ∙ ap (drop 16) l.invariant.rest ∙ drop-drop 16 (length t - length l.rest.now) t ∙ rw place refl;
      line = omega (arith, place, over 16 l.rest.now clear, ap before s.1, l.invariant.line);
    }
