-- The output half of the byte pipe, as request No. 3 has it.
use Rattle.std.specs.Prelude.{ℕ, ◌-◌, Bool, cond, ◌&&◌, List, leb, eqb, take, drop, replicate}
use Rattle.pipe.specs.declared.Output.{Output}
use Rattle.pipe.specs.declared.Handed.{Handed}
use Rattle.pipe.specs.Input.{sent_packet, count_up}

-- the bytes in hand, the one being shown first: the last `hand` of the packet's eight
unfoldable pub held_out : Output → List ℕ
held_out o = drop (8 - o.hand) o.bytes

-- the byte being shown, where one is in hand
abbrev pub shown_out : Output → List ℕ
shown_out o = take 1 (held_out o)

-- nothing in hand, no timeouts: from power, and "Initialise empties this half too and sets its count to 0"
unfoldable pub fresh_output : Output
fresh_output = record { bytes = replicate 8 0; hand = 0; timeouts = 0 }

-- what a call gives: the byte now being shown, and the output
abbrev pub handed : Output → Handed
handed o = record { sent = sent_packet (shown_out o); output = o }

-- "an eight-byte packet from the aircraft is handed to the camera": all of it is in hand
unfoldable pub output_packet : Output → List ℕ → Handed
output_packet o b = handed (record { bytes = b; hand = 8; timeouts = o.timeouts })

-- "one byte at a time, each byte after the last was taken"; "A taken .. with nothing in hand does nothing.": 0 less 1 is 0
unfoldable pub output_taken : Output → Handed
output_taken o = handed (record { bytes = o.bytes; hand = o.hand - 1; timeouts = o.timeouts })

-- "the rest of that packet is dropped and an output timeout is counted, 15 meaning 15 or more"; "a timeout with nothing in hand does
-- nothing"
unfoldable pub output_timeout : Output → Output
output_timeout o = cond (eqb o.hand 0) o (record { bytes = o.bytes; hand = 0; timeouts = count_up o.timeouts })

-- "0 to 8 bytes in hand, and output timeouts 0 to 15"
unfoldable pub sound_output : Output → Bool
sound_output o = leb o.hand 8 && leb o.timeouts 15

-- "output busy": something in hand
unfoldable pub busy_of : Output → Bool
busy_of o = leb 1 o.hand
