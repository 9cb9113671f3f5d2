-- A turn keeps to the bounds, and leaves no more turns than there were.
-- Assumes nothing.
use Prim.Native.Nat.{◌≤◌}
use mathlib.Core.Bool.{Bool}
use native.Mathlib.Omega.{arith}
use Rattle.pieces.specs.declared.Desk.{Desk}
use Rattle.pieces.specs.Desks.{started, Went, failed, stays, ends, reads, Bounded}

pub started_bounded : Bounded started
started_bounded = record { start = omega arith; longest = omega arith; piece = omega arith }

pub went_bounded : (w : Bool) (d e : Desk) → Bounded d → Went w d e → Bounded e
went_bounded w d _ b (failed _) = record { start = omega arith; longest = omega arith; piece = omega arith }
went_bounded w d _ b (stays _ _) = b
went_bounded w d _ b (ends _ _) = record { start = omega arith; longest = b.longest; piece = omega arith }
went_bounded w d _ b (reads _ _ n _ m) = record { start = omega arith; longest = b.longest; piece = m }

pub no_more : (w : Bool) (d e : Desk) → Went w d e → e.left ≤ d.left
no_more w d _ (failed _) = omega arith
no_more w d _ (stays _ _) = omega arith
no_more w d _ (ends _ _) = omega arith
no_more w d _ (reads _ _ n _ _) = omega arith
