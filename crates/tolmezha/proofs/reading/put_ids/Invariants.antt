-- What is still to be stored, and what was there at the start.
use Prim.Native.Nat.{◌+◌}
use mathlib.Core.Path.{◌≡◌}
use mathlib.Core.List.{map}
use lib.IntN.{pos}
use lib.ListN.{drop}
use lib.Seq.{sets}
use Rattle.tolmezha.proofs.reading.put_ids.Given as goal

abbrev pub invariant-loop-i : goal.invariant-loop-i
invariant-loop-i l = sets l.values (5 + l.i) (map pos (drop l.i l.ids)) ≡ sets l.initial.values 5 (map pos l.ids)
