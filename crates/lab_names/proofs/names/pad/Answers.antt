-- `lab_names::names::pad`: the spaces that the copy leaves. Assumes nothing.
use Rattle.std.proofs.Common.{◌∙◌}
use Rattle.lab_names.proofs.Spelling.{pad_is}
use Rattle.lab_names.proofs.names.pad.Goals as goal

pub returns : goal.returns
returns c = c.copy.ensures ∙ pad_is c.args.head.now c.requires
