-- What is left of the digits is still to be read behind the number so far. Assumes nothing.
use Rattle.std.proofs.Common.{arith, ◌≡◌, ◌∙◌, sym, true, false, length, get_or, leb, ◌&&◌}
use borrow.Author.Tests.{leb-true}
use Rattle.rows.proofs.Bool.{and_right}
use Rattle.decimals.specs.Reading.{digits_in}
use Rattle.decimals.proofs.Digits.{digits_end, digit_on, digit-off, digit-most, tens}
use Rattle.decimals.proofs.reading.digits.Goals as goal

pub returns-then-not-text : goal.returns-then-not-text
unfolding digits_in
returns-then-not-text c =
    let n = length c.args.text.now in
    let wrong : (leb 1 n && leb n 10) ≡ false = c.if-not-text.true in
    rw wrong

pub loop-c-init : goal.loop-c-init
unfolding digits_in
loop-c-init c =
    let n = length c.args.text.now in
    let right : (leb 1 n && leb n 10) ≡ true = c.if-not-text.false in
    record { few = leb-true n 10 (and_right (leb 1 n) (leb n 10) right); small = omega arith; left = rw right }

pub returns-in_err-digit : goal.returns-in_err-digit
returns-in_err-digit c =
    let l = c.loop-c in
    c.from_residual.ensures ∙ sym (digit-off c.args.text.now l.c-index l.n c.loop-c-test.true c.in_err-digit.ensures) ∙ l.invariant.left

pub loop-c-preserved : goal.loop-c-preserved
loop-c-preserved c =
    let l = c.loop-c in
    let t = c.args.text.now in
    let d = c.in_ok-digit.field-0 in
    let same : c.from.result ≡ d = c.from.ensures in
    record {
      few = l.invariant.few;
      small = rw same (tens l.c-index l.n d l.invariant.small (digit-most (get_or t l.c-index 0) d c.in_ok-digit.ensures));
      left = rw same (sym (digit_on t l.c-index l.n c.loop-c-test.true d c.in_ok-digit.ensures) ∙ l.invariant.left);
    }

pub returns : goal.returns
returns c =
    let l = c.loop-c in
    sym (digits_end c.args.text.now l.c-index l.n c.loop-c-test.false) ∙ l.invariant.left
