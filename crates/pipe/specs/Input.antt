-- The input half of the byte pipe, as document 01 has it under "Frames and pipe".
use Rattle.std.specs.Prelude.{ℕ, ◌+◌, ◌-◌, min, Bool, cond, ◌&&◌, List, [], ◌∷◌, ◌++◌, ltb, leb, eqb, length, take, set, replicate}
use Rattle.pipe.specs.declared.Input.{Input}
use Rattle.pipe.specs.declared.Sent.{Sent}
use Rattle.pipe.specs.declared.Piped.{Piped}

-- the bytes gathered so far, in the order in which they came
unfoldable pub held_in : Input → List ℕ
held_in i = take i.gathered i.bytes

-- these bytes sent: an array of eight with zeros behind them, and their count
unfoldable pub sent_packet : List ℕ → Sent
sent_packet xs = record { bytes = xs ++ replicate (8 - length xs) 0; count = length xs }

-- the list that is sent: the first `count` bytes of the array
unfoldable pub sent_bytes : Sent → List ℕ
sent_bytes s = take s.count s.bytes

-- nothing gathered, after so many timeouts
unfoldable pub empty_input : ℕ → Input
empty_input n = record { bytes = replicate 8 0; gathered = 0; timeouts = n }

-- "no gathered bytes, timeouts 0": from power and after Initialise
unfoldable pub fresh_input : Input
fresh_input = empty_input 0

-- one byte more behind those gathered
unfoldable pub gathers : Input → ℕ → Input
gathers i b = record { bytes = set i.bytes i.gathered b; gathered = i.gathered + 1; timeouts = i.timeouts }

-- what a call gives: these bytes sent, and the input after it
abbrev pub piped : List ℕ → Input → Piped
piped xs i = record { sent = sent_packet xs; input = i }

-- "Pipe bytes gather; the eighth sends all eight."
unfoldable pub pipe_byte : Input → ℕ → Piped
pipe_byte i b =
    cond (ltb i.gathered 7)
    (piped [] (gathers i b))
    (piped (held_in i ++ (b ∷ [])) (empty_input i.timeouts))

-- "counts one up to 15 (it stays 15)"
unfoldable pub count_up : ℕ → ℕ
count_up n = min (n + 1) 15

-- "The pipe timeout sends a short packet and counts one up to 15 (it stays 15); with none gathered it does nothing."
unfoldable pub pipe_timeout : Input → Piped
pipe_timeout i =
    cond (eqb i.gathered 0)
    (piped [] i)
    (piped (held_in i) (empty_input (count_up i.timeouts)))

-- "0 to 7 bytes gathered; timeouts 0 to 15"
unfoldable pub sound_input : Input → Bool
sound_input i = leb i.gathered 7 && leb i.timeouts 15

-- "when 1 to 7 bytes are gathered"
unfoldable pub gathering_of : Input → Bool
gathering_of i = leb 1 i.gathered && leb i.gathered 7
