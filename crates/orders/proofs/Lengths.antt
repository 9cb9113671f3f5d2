-- The lengths that a load or a read may have, as facts.
use mathlib.Core.Path.{◌≡◌}
use mathlib.Core.Bool.{true}
use Prim.Native.Nat.{ℕ, ◌≤◌}
use borrow.Author.Tests.{leb-true, le-leb}
use lib.Dec.{leb}
use Rattle.orders.specs.Command.{length_allowed}
use Rattle.rows.proofs.Bool.{and_left, and_right, and_both}

-- N 4 to 64
pub record Allowed (n : ℕ) : Type 0 where
  pub least : 4 ≤ n
  pub most : n ≤ 64

pub allowed_has : (n : ℕ) → length_allowed n ≡ true → Allowed n
allowed_has n h =
    record { least = leb-true _ _ (and_left (leb 4 n) (leb n 64) h); most = leb-true _ _ (and_right (leb 4 n) (leb n 64) h) }

pub has_allowed : (n : ℕ) → Allowed n → length_allowed n ≡ true
has_allowed n h = and_both (le-leb _ _ h.least) (le-leb _ _ h.most)
