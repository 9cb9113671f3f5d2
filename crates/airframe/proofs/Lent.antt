-- What is built into a lent room: refused for a field, refused for the room, or written.
use Prim.Native.Nat.{ℕ, ◌≤◌}
use mathlib.Core.Path.{◌≡◌, ap}
use mathlib.Core.Bool.{Bool, true, not}
use mathlib.Core.List.{List, [], ◌∷◌}
use borrow.Author.Tests.{le-ltb}
use lib.ListN.{length}
use Rattle.rows.specs.Rows.{First, refused, gave, out, none, past}
use Rattle.rows.proofs.Laws.{refused_is, given_is}
use Rattle.packets.specs.Answers.{Written}
use Rattle.airframe.specs.Building.{field_row, room_row, build_of}

module _ (inside : Bool) (bytes room : List ℕ) where
  -- refused by the first row that holds
  pub shut : {n : ℕ} → First n (field_row inside ∷ room_row room ∷ []) → out (refused n) tt room ≡ build_of inside bytes room
  unfolding build_of
  shut f = refused_is tt room _ f

  -- and otherwise what was written
  pub laid : inside ≡ true → 25 ≤ length room → (room' : List ℕ) (n : ℕ) → Written bytes room room' n → out (gave n) tt room' ≡ build_of inside bytes room
  unfolding build_of
  laid e h room' n w = rw (w.room, w.count) (given_is tt room _ (past (ap not e) (past (le-ltb (length room) 25 h) none)))
