use Rattle.std.proofs.Common.{◌≡◌, true}
use Rattle.pieces.specs.Desks.{Bounded}
use Rattle.pieces.proofs.turns.run_emptied.Given as goal

-- nothing but the bounds has to hold from piece to piece, and the turns left become fewer
abbrev pub invariant-loop-desk : goal.invariant-loop-desk
invariant-loop-desk g l = record { desk : Bounded l.desk; fine : g.A.Gathers.Fine l.state; room : g.A.Gathers.room l.state ≡ true; written : g.A.Gathers.gathered l.state ≡ 0 }

abbrev pub decreases-loop-desk : goal.decreases-loop-desk
decreases-loop-desk g l = l.desk.left
