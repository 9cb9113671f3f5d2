-- The numbers that are left are plain where all are, and their sizes complete those that are stored.
use mathlib.Core.Path.{◌≡◌}
use mathlib.Core.List.{map}
use lib.ListN.{drop}
use lib.Seq.{sets}
use Rattle.aircraft_lines.specs.Asked.{all_plain, size_of}
use Rattle.aircraft_lines.proofs.fields.sizes.Given as goal

abbrev pub invariant-loop-i : goal.invariant-loop-i
invariant-loop-i l = (all_plain (drop l.i l.fn.list) ≡ all_plain l.fn.list) × (sets l.sizes l.i (map size_of (drop l.i l.fn.list)) ≡ map size_of l.fn.list)
