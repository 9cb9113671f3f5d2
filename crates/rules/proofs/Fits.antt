-- What a put has that no row refuses.
-- Assumes nothing.
use Prim.Native.Nat.{ℕ, ◌*◌, ◌<◌}
use mathlib.Core.Path.{◌≡◌}
use mathlib.Core.Bool.{true}
use mathlib.Core.List.{List}
use lib.ListN.{length}
use borrow.Author.Tests.{leb-false, eqb-true}
use Rattle.rows.specs.Rows.{Clear, none, past}
use Rattle.rows.proofs.Bool.{not-false}
use Rattle.blocks.specs.declared.Store.{Store}
use Rattle.blocks.specs.Stores.{capacity_of, store_sized}
use Rattle.rules.specs.State.{store_in, ring_of, sound_pod}
use Rattle.rules.specs.World.{World, put, rows_of}

-- a whole store and block, a sound pod, and room
pub record PutFits (s : Store) (b : List ℕ) (w : World) : Type 0 where
  pub store : length (store_in s w.lent) ≡ capacity_of s * 256
  pub sound : sound_pod w.pod ≡ true
  pub block : length b ≡ 256
  pub free : (ring_of s w.pod).waiting < capacity_of s

pub put_fits : (s : Store) (b : List ℕ) (w : World) → Clear (rows_of w (put s b)) → PutFits s b w
unfolding rows_of store_sized
put_fits s b w (past size (past ok (past long (past on (past room none))))) =
    record {
      store = eqb-true _ _ (not-false size);
      sound = not-false ok;
      block = eqb-true _ _ (not-false long);
      free = leb-false _ _ room;
    }
