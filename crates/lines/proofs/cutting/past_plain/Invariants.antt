use Rattle.std.proofs.Common.{◌≡◌, ◌+◌, ◌≤◌, ◌-◌, length, drop}
use Rattle.lines.specs.Cut.{before}
use Rattle.lines.proofs.cutting.past_plain.Given as goal

-- whole parts of sixteen are left behind while none has a newline
abbrev pub invariant-loop-part : goal.invariant-loop-part
invariant-loop-part l =
    record {
      short : length l.rest ≤ length l.text;
      rest : l.rest ≡ drop (length l.text - length l.rest) l.text;
      line : length l.text - length l.rest + before l.rest ≡ l.from + before (drop l.from l.text);
    }

abbrev pub decreases-loop-part : goal.decreases-loop-part
decreases-loop-part l = length l.rest
