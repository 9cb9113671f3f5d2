-- `lab_names::names::named`: among the names that are left the text still means the same part. Assumes nothing.
use Rattle.std.proofs.Common.{◌≡◌, drop}
use Rattle.lab_names.specs.Names.{part_named}
use Rattle.lab_names.proofs.Spelling.{look}
use Rattle.lab_names.proofs.names.named.Given as goal

abbrev pub invariant-loop-name : goal.invariant-loop-name
invariant-loop-name l = look l.text (drop l.name-index l.name-items) ≡ part_named l.head
