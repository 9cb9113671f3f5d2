-- The place where a newline is found.
use Rattle.std.proofs.Common.{arith, ◌∙◌}
use Rattle.lines.proofs.Before.{found_at, end_within}
use Rattle.lines.proofs.cutting.line_end.Goals as goal

pub returns-clause-value : goal.returns-clause-value
returns-clause-value c = found_at c.args.text.now c.past_plain.result c.find.result c.find.ensures ∙ c.past_plain.ensures.text_value

pub returns-clause-upper_bound : goal.returns-clause-upper_bound
returns-clause-upper_bound c =
    let t = c.args.text.now in
    omega (arith, found_at t c.past_plain.result c.find.result c.find.ensures, end_within t c.past_plain.result c.past_plain.ensures.upper_bound)
