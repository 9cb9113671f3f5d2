-- Document 01's examples, and what stands beside a statement that judges by a rule's own test: proofs/Examples.antt has its one value.
-- Assumes nothing.
use Rattle.examples.specs.Shown.{Shown}
use Rattle.examples.specs.Edges.{Edges}
use Rattle.examples.specs.Bounds.{Bounds}
use Rattle.examples.specs.Missing.{Missing}
use Rattle.examples.specs.Computed.{Computed, Conversation}

pub record Examples : Type 0 where
  pub shown : Shown
  pub edges : Edges
  pub bounds : Bounds
  pub missing : Missing
  pub computed : Computed
  pub conversation : Conversation
