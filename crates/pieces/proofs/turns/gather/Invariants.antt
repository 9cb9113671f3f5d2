use Rattle.std.proofs.Common.{◌-◌, length}
use Rattle.lines.specs.Turns.{Turns, stand}
use Rattle.pieces.specs.Desks.{InPiece}
use Rattle.pieces.proofs.turns.gather.Given as goal

-- each turn is one more of the turns
abbrev pub invariant-loop-cursor : goal.invariant-loop-cursor
invariant-loop-cursor g l =
    record {
      turns : Turns g.A.Answers.answers l.piece (stand l.initial.cursor l.initial.line l.initial.state) (stand l.cursor l.line l.state);
      inside : InPiece l.cursor (length l.piece);
      fine : g.A.Answers.Fine l.state;
    }

abbrev pub decreases-loop-cursor : goal.decreases-loop-cursor
decreases-loop-cursor g l = length l.piece - l.cursor.from
