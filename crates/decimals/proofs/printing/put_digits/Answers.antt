-- The digits are stored from the right, and the number is what they say. Assumes nothing.
use Rattle.std.proofs.Common.{rules, arith, refl, ap, ◌∙◌, ◌≤◌, ◌+◌, ◌%◌, length, append-nil}
use lib.ListN.{length-set}
use Rattle.items.specs.Printed.{digits_of, decimal}
use Rattle.decimals.proofs.Tens.{fewer, digit_in, the_text}
use Rattle.decimals.proofs.printing.put_digits.Goals as goal

pub loop-rest-init : goal.loop-rest-init
unfolding decimal
loop-rest-init c = record { place = search rules; small = omega (arith, c.ranges.n); size = refl; digits = append-nil (digits_of 20 c.args.n) }

pub loop-rest-preserved : goal.loop-rest-preserved
loop-rest-preserved c =
    let l = c.loop-rest in
    let more : 10 ≤ l.rest = omega arith in
    let f = fewer l.i l.rest l.invariant.small more in
    record {
      place = omega arith;
      small = f.1;
      size = length-set l.text l.i (48 + l.rest % 10) ∙ l.invariant.size;
      digits = digit_in l.i l.rest l.text f.0 more (omega (arith, l.invariant.size)) ∙ l.invariant.digits;
    }

pub append-requires : goal.append-requires
append-requires c =
    let l = c.loop-rest in
    let t = the_text l.i l.rest c.args.n l.text (omega arith) l.invariant.place l.invariant.size l.invariant.digits in
    omega (arith, ap length t)

pub returns : goal.returns
returns c =
    let l = c.loop-rest in
    let t = the_text l.i l.rest c.args.n l.text (omega arith) l.invariant.place l.invariant.size l.invariant.digits in
    let h = c.append.ensures in
    rw t at h
