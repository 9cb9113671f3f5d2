-- Demand 1: one table for all calls, in its order, is what the calls are refused by.
-- Assumes nothing.
use Prim.Native.Nat.{ℕ}
use mathlib.Core.Path.{◌≡◌, refl}
use mathlib.Core.Bool.{Bool, true, false, not, ◌&&◌, ◌||◌}
use mathlib.Core.List.{List, [], ◌∷◌}
use lib.Dec.{leb}
use Rattle.rows.specs.Rows.{Row, First, here, after, Clear, none, past}
use Rattle.rows.proofs.Bool.{split, never}
use Rattle.pipe.specs.Output.{busy_of}
use Rattle.frames.specs.Samples.{bounded_of}
use Rattle.rules.specs.Families.{byte, timeout, packet_out, taken, deadline, pipe}
use Rattle.rules.specs.Traits.{traits}
use Rattle.rules.specs.World.{World, Call, power, packet, put, word, lone, samples, rows_of}
use Rattle.rules.specs.Numbered.{rows_in_order}
use Rattle.rules.specs.Demands.{RowsExactly}
use Rattle.rules.proofs.WordRows.{rowed}
use Rattle.rules.proofs.Answered.{always_answered}

-- ---- rows, with others among them that do not hold

data Among : List Row → List Row → Type 0 where
  done : Among [] []
  same : {r : Row} {rs ts : List Row} → Among rs ts → Among (r ∷ rs) (r ∷ ts)
  idle : {r : Row} {rs ts : List Row} → r.holds ≡ false → Among rs ts → Among rs (r ∷ ts)

first_in : {n : ℕ} {rs ts : List Row} → Among rs ts → First n rs → First n ts
first_in (same a) (here h) = here h
first_in (same a) (after h f) = after h (first_in a f)
first_in (idle e a) f = after e (first_in a f)
first_in {n = n} done f = elim f [ ]

first_of : {n : ℕ} {rs ts : List Row} → Among rs ts → First n ts → First n rs
first_of (same a) (here h) = here h
first_of (same a) (after h f) = after h (first_of a f)
first_of (idle e a) (here h) = never h e
first_of (idle e a) (after h f) = first_of a f
first_of {n = n} done f = elim f [ ]

-- ---- the table

not_both : (a b : Bool) → not (a && b) ≡ (not a || not b)
not_both true b = refl
not_both false b = refl

-- a call's rows stand in the table in their order, and no other row of it holds
table : (w : World) (c : Call) → Among (rows_of w c) (rows_in_order w c)
unfolding rows_of rows_in_order busy_of
table w power = idle refl (same (idle refl (idle refl (idle refl (idle refl (idle refl (idle refl (idle refl done))))))))
table w (packet b room) = same (same (same (idle refl (idle refl (idle refl (idle refl (idle refl (idle refl done))))))))
table w (put s b) = idle refl (same (same (same (idle refl (idle refl (same (same (idle refl done))))))))
table w (word c) =
    rw ((rowed c).rows w.lent.tables)
    (split (traits c).lent
    (λ e. rw e (idle refl (same (same (idle refl (idle refl (idle refl (idle refl (idle refl (idle refl done))))))))))
    (λ e. rw e (idle refl (idle refl (same (idle refl (idle refl (idle refl (idle refl (idle refl (idle refl done)))))))))))
table w (lone deadline) = idle refl (idle refl (same (idle refl (idle refl (idle refl (idle refl (idle refl (idle refl done))))))))
table w (lone (pipe (byte b))) = idle refl (idle refl (same (idle refl (idle refl (idle refl (same (idle refl (idle refl done))))))))
table w (lone (pipe timeout)) = idle refl (idle refl (same (idle refl (idle refl (idle refl (same (idle refl (idle refl done))))))))
table w (lone (pipe (packet_out b))) = idle refl (idle refl (same (idle refl (idle refl (same (same (idle refl (same done))))))))
table w (lone (pipe taken)) = idle refl (idle refl (same (idle refl (idle refl (idle refl (same (idle refl (idle refl done))))))))
table w (samples k xs) =
    rw (not_both (bounded_of xs) (leb k 31)) (idle refl (idle refl (same (same (same (idle refl (idle refl (idle refl (idle refl done)))))))))

-- so where none of a call's rows holds, none of the table's does
clear_in : {rs ts : List Row} → Among rs ts → Clear rs → Clear ts
clear_in done none = none
clear_in (same a) (past h k) = past h (clear_in a k)
clear_in (idle e a) k = past e (clear_in a k)

pub all_clear : (w : World) (c : Call) → Clear (rows_of w c) → Clear (rows_in_order w c)
all_clear w c k = clear_in (table w c) k

pub rows_exactly : RowsExactly
rows_exactly w c n =
    let first = always_answered w c n in
    (λ s. first_in (table w c) (first.0 s), λ f. first.1 (first_of (table w c) f))
