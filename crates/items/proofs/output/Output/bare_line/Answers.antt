-- The characters appended are those of the definition.
use Rattle.items.specs.Printed.{bare_line}
use Rattle.items.proofs.output.Output.bare_line.Goals as goal

pub returns : goal.returns
unfolding bare_line
returns c = c.append.ensures
