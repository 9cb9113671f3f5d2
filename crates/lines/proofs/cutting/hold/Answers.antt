-- By the length of what came and what comes.
use Rattle.std.proofs.Common.{arith, ◌∙◌}
use Rattle.lines.proofs.Held.{too_long, fits_in}
use Rattle.lines.proofs.cutting.hold.Goals as goal

pub returns-then-part-gt-LONGEST-clause-value : goal.returns-then-part-gt-LONGEST-clause-value
returns-then-part-gt-LONGEST-clause-value c = (too_long c.args.line.now c.args.held c.args.part.now (omega arith)).0

pub returns-then-part-gt-LONGEST-clause-line_after : goal.returns-then-part-gt-LONGEST-clause-line_after
returns-then-part-gt-LONGEST-clause-line_after c = (too_long c.args.line.now c.args.held c.args.part.now (omega arith)).1

pub returns-then-held-part-gt-LONGEST-clause-value : goal.returns-then-held-part-gt-LONGEST-clause-value
returns-then-held-part-gt-LONGEST-clause-value c = (too_long c.args.line.now c.args.held c.args.part.now (omega arith)).0

pub returns-then-held-part-gt-LONGEST-clause-line_after : goal.returns-then-held-part-gt-LONGEST-clause-line_after
returns-then-held-part-gt-LONGEST-clause-line_after c = (too_long c.args.line.now c.args.held c.args.part.now (omega arith)).1

pub returns-clause-value : goal.returns-clause-value
returns-clause-value c = (fits_in c.args.line.now c.args.held c.args.part.now (omega arith)).0

pub returns-clause-line_after : goal.returns-clause-line_after
returns-clause-line_after c = c.copy.ensures ∙ (fits_in c.args.line.now c.args.held c.args.part.now (omega arith)).1
