-- What an answered call gives beside its next state: a number, bytes, or neither.
-- Assumes nothing.
use Rattle.std.specs.Prelude.{◌≡◌, Bool, true, false, []}
use Rattle.std.proofs.Math.Option.{Option, none, some}
use Rattle.rows.specs.Rows.{gave}
use Rattle.rules.specs.Refusals.{done}
use Rattle.rules.specs.Families.{PipeCall}
use Rattle.rules.specs.Traits.{traits}
use Rattle.rules.specs.World.{World, Call, power, packet, put, word, lone, samples, is_answered, step}
use Rattle.rules.specs.History.{lone_as}

-- the length of an answer, a word
abbrev pub gives_number : Call → Bool
gives_number power = false
gives_number (packet b room) = true
gives_number (put s b) = false
gives_number (word c) = (traits c).gives
gives_number (lone c) = false
gives_number (samples k xs) = false

-- a pipe call, or none
abbrev pub is_move : Option PipeCall → Bool
is_move none = false
is_move (some c) = true

-- the answer room, what the pipe gave, two frames
abbrev pub gives_bytes : Call → Bool
gives_bytes power = false
gives_bytes (packet b room) = true
gives_bytes (put s b) = false
gives_bytes (word c) = false
gives_bytes (lone c) = is_move (lone_as c).moves
gives_bytes (samples k xs) = true

-- where there is no number to give it says done, and there are no bytes where there are none to give
abbrev pub SaysDone : Type 0
SaysDone =
    (w : World) (c : Call) → is_answered w c ≡ true
    → (gives_number c ≡ false → (step w c).told.said ≡ gave done) × (gives_bytes c ≡ false → (step w c).told.bytes ≡ [])
