-- What a pipe call touches, and what a deadline leaves: of a furnished world, whichever exchange is open and whatever is lent.
-- Assumes nothing.
use Rattle.std.specs.Prelude.{ℕ, ◌≡◌, List, [], ◌∷◌, map, pos, length, replicate}
use Rattle.std.proofs.lemmas.List.Edits.{sets}
use Rattle.params.specs.Rules.{start_params, stored}
use Rattle.orders.specs.declared.Table.TheVariants.{Five}
use Rattle.tables.specs.declared.Transfer.TheVariants.{Load}
use Rattle.tables.specs.Port.{header, start_words, with_transfer}
use Rattle.pipe.specs.declared.Pipe.{Pipe}
use Rattle.rules.specs.declared.Exchange.{Exchange}
use Rattle.rules.specs.declared.Exchange.TheVariants.{Closed}
use Rattle.rules.specs.declared.Pod.{Pod}
use Rattle.rules.specs.State.{Lent, with_params, with_words, with_pipe}
use Rattle.rules.specs.Obey.{initialised_pod}
use Rattle.rules.specs.Families.{PipeCall, byte, timeout, packet_out, taken, deadline, pipe}
use Rattle.rules.specs.World.{world, lone, next}
use Rattle.port_examples.specs.Packets.{updated, stocked}

-- two packets; 00 is a byte as any other, at first, amid and at last
abbrev pub one_packet : List ℕ
one_packet = 0xA1 ∷ 0xA2 ∷ 0xA3 ∷ 0xA4 ∷ 0xA5 ∷ 0xA6 ∷ 0xA7 ∷ 0xA8 ∷ []

abbrev pub other_packet : List ℕ
other_packet = 0x00 ∷ 0xB2 ∷ 0x00 ∷ 0xB4 ∷ 0xB5 ∷ 0xB6 ∷ 0xB7 ∷ 0x00 ∷ []

-- a pipe call, and the pipe before and after it
pub record PipeMove : Type 0 where
  pub call : PipeCall
  pub before : Pipe
  pub after : Pipe

abbrev pub pipe_move : PipeCall → Pipe → Pipe → PipeMove
pipe_move c i j = record { call = c; before = i; after = j }

-- these bytes gathered and zeros behind them, and so many timeouts; of a packet so many bytes in hand, and so many timeouts
abbrev pub both_sides : List ℕ → ℕ → List ℕ → ℕ → ℕ → Pipe
both_sides xs n b hand k =
    record { input = record { bytes = sets (replicate 8 0) 0 xs; gathered = length xs; timeouts = n }; output = record { bytes = b; hand = hand; timeouts = k } }

-- "A taken or a timeout with nothing in hand does nothing": here the output half, by the last two
abbrev pub pipe_moves : List PipeMove
pipe_moves =
    pipe_move (packet_out one_packet) (both_sides (9 ∷ []) 2 other_packet 0 4) (both_sides (9 ∷ []) 2 one_packet 8 4)
    ∷ pipe_move taken (both_sides (9 ∷ []) 2 one_packet 8 4) (both_sides (9 ∷ []) 2 one_packet 7 4)
    ∷ pipe_move (byte 5) (both_sides (9 ∷ []) 2 one_packet 7 4) (both_sides (9 ∷ 5 ∷ []) 2 one_packet 7 4)
    ∷ pipe_move timeout (both_sides (9 ∷ 5 ∷ []) 2 one_packet 7 4) (both_sides [] 3 one_packet 0 5)
    ∷ pipe_move timeout (both_sides [] 2 one_packet 1 4) (both_sides [] 2 one_packet 0 5)
    ∷ pipe_move timeout (both_sides (9 ∷ []) 3 one_packet 0 5) (both_sides [] 4 one_packet 0 5)
    ∷ pipe_move taken (both_sides [] 4 one_packet 0 5) (both_sides [] 4 one_packet 0 5)
    ∷ []

-- a pod with an exchange open, blocks waiting, every field updated, a parameter written, a load open, and this in its pipe
abbrev pub furnished : Exchange → Pipe → Pod
furnished x i =
    with_pipe i
    (with_words (with_transfer (Load (header Five 4) 3) start_words)
    (with_params (stored start_params 4 (pos 50))
    (stocked x (record { pod = initialised_pod updated; waiting = 0; remaining = 0 }))))

-- whichever exchange is open and whatever is lent, these calls move the pipe so, and leave all else of the world as it was
abbrev pub PipeAlone : Type 0
PipeAlone =
    (x : Exchange) (l : Lent)
    → map (λ (m : PipeMove). next (world (furnished x m.before) l) (lone (pipe m.call))) pipe_moves
    ≡ map (λ (m : PipeMove). world (furnished x m.after) l) pipe_moves

-- a byte gathered, and of any packet all eight bytes or the last in hand
abbrev pub some_in_hand : List ℕ → List Pipe
some_in_hand b = both_sides (9 ∷ []) 2 b 8 4 ∷ both_sides (9 ∷ []) 2 b 1 15 ∷ []

-- a deadline closes whichever exchange is open, and leaves all else of the world as it was, both halves of the pipe too
abbrev pub DeadlineAlone : Type 0
DeadlineAlone =
    (x : Exchange) (l : Lent) (b : List ℕ)
    → map (λ (i : Pipe). next (world (furnished x i) l) (lone deadline)) (some_in_hand b)
    ≡ map (λ (i : Pipe). world (furnished Closed i) l) (some_in_hand b)
