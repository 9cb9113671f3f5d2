-- How a program begins.
-- Assumes nothing.
use Rattle.std.specs.Prelude.{◌≡◌, length}
use Rattle.rules.specs.State.{fresh_pod}
use Rattle.line_calls.specs.Memory.{right_sizes}
use Rattle.line_answers.specs.declared.Bench.{Bench}
use Rattle.line_answers.specs.declared.Program.{Program}

-- a fresh pod, everything lent at its right size, and nothing gathered
pub record Begun (p : Program) (b : Bench) : Type 0 where
  pub program : b.program ≡ p
  pub pod : b.pod ≡ fresh_pod
  pub sizes : b.sizes ≡ right_sizes
  pub written : b.out.at ≡ 0
  pub room : length b.out.out.now ≡ 65536
