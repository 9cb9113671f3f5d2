-- At most eight bytes.
use Rattle.std.proofs.Common.{rules, arith, ◌≡◌, ap, length}
use Rattle.rules.specs.Refusals.{answer_said}
use Rattle.pipe.specs.Input.{sent_bytes}
use Rattle.items.proofs.Behind.{renamed}
use Rattle.answers.specs.Answers.{listing, said_line}
use Rattle.answers.proofs.put_sent.Goals as goal

pub returns : goal.returns
unfolding sent_bytes
returns c =
    let x : length c.args.sent.bytes ≡ 8 = search rules in
    renamed _ _ (ap (said_line (listing c.args.letter) (answer_said c.args.answer)) c.front.ensures.result_value)
    (omega (arith, x, c.front.ensures.result_in_bounds)) c.put_line.ensures
