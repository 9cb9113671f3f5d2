-- What stands between two pieces of input.
-- Assumes nothing.
use Rattle.std.specs.Prelude.{◌≡◌, Bool, true, false, ℕ, ◌-◌, ◌^◌, ◌≤◌, ◌<◌}
use Rattle.lines.specs.declared.Cursor.{Cursor}
use Rattle.pieces.specs.declared.Desk.{Desk}

abbrev pub desk : ℕ → ℕ → ℕ → ℕ → Desk
desk from held have left = record { cursor = record { from = from; held = held }; have = have; left = left }

-- nothing is read
abbrev pub started : Desk
started = desk 0 0 0 (2 ^ 64 - 1)

-- what a turn leaves, whatever becomes of the input: a line that is held stays so while the output, written, goes on
pub data Went (written : Bool) (d : Desk) : Desk → Type 0 where
  -- the output failed
  failed : written ≡ false → Went written d (desk 0 0 0 0)
  -- the piece has more lines
  stays : written ≡ true → d.cursor.from < d.have → Went written d d
  -- the input ended
  ends : written ≡ true → d.have ≤ d.cursor.from → Went written d (desk 0 d.cursor.held 0 0)
  -- the next piece is read
  reads : written ≡ true → d.have ≤ d.cursor.from → (n : ℕ) → 1 ≤ n → n ≤ 65536 → Went written d (desk 0 d.cursor.held n d.left)

-- the cursor within the piece, no line held that is too long
pub record InPiece (c : Cursor) (have : ℕ) : Type 0 where
  pub start : c.from ≤ have
  pub longest : c.held ≤ 196607

-- the bounds: the cursor within the piece, no line held that is too long, no piece over the size of the loop's array
pub record Bounded (d : Desk) : Type 0 where
  pub start : d.cursor.from ≤ d.have
  pub longest : d.cursor.held ≤ 196607
  pub piece : d.have ≤ 65536
