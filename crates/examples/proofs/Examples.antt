-- All examples are as expected.
-- Assumes nothing.
use Rattle.examples.specs.Examples.{Examples}
use Rattle.examples.proofs.Edges.{all_edges}
use Rattle.examples.proofs.Bounds.{all-bounds}
use Rattle.examples.proofs.Missing.{all_missing_lem}
use Rattle.examples.proofs.Shown.{all_shown, all-computed, conversed}

pub examples : Examples
examples =
    record { shown = all_shown; edges = all_edges; bounds = all-bounds; missing = all_missing_lem; computed = all-computed; conversation = conversed }
