-- The two status frames by the byte-pipe layout of document 000, Appendix C, with document 01's values and request No. 3's.
use Rattle.std.specs.Prelude.{ℕ, Bool, false, List, [], ◌∷◌, get_or}
use Rattle.pipe.specs.declared.Pipe.{Pipe}
use Rattle.pipe.specs.Input.{gathering_of}
use Rattle.pipe.specs.Output.{busy_of}
use Rattle.frames.specs.declared.Frames.{Frames}
use Rattle.frames.specs.Samples.{averages_of}
use Rattle.frames.specs.Fields.{Field, field_bits, field_bit, bits_of, frame}

-- 0x24MM Module Status AN03 in byte-pipe mode, each line of the guide with what stands there (of the output's only the count and busy:
-- 1.3-0 and 5.6-3 stay 0): of the eight averages,
-- the pipe, initialised or not, and the self-check number
unfoldable pub lines03 : List ℕ → Pipe → Bool → ℕ → List Field
lines03 averages pipe initialised selfcheck =
    -- 0.7-4 count of IN-side timeouts: "input timeouts in 0.7-4"
    field_bits 0 7 4 pipe.input.timeouts
    -- 0.3-0 count of OUT-side timeouts: "AN03 then carries the count in 0.3-0"
    ∷ field_bits 0 3 0 pipe.output.timeouts
    -- 1.7-4 count of TxBfrFull events
    ∷ field_bits 1 7 4 0
    -- 1.3-0 count of pipe-writes received with power off
    ∷ field_bits 1 3 0 0
    -- 2.7-0 analog channel 1 bits 7..0
    ∷ field_bits 2 7 0 (bits_of (get_or averages 1 0) 7 0)
    -- 3.7 pipe-IN busy: "1 when 1 to 7 bytes are gathered"
    ∷ field_bit 3 7 (gathering_of pipe.input)
    -- 3.6 pipe-IN in error recovery
    ∷ field_bit 3 6 false
    -- 3.5 transmit buffers both full
    ∷ field_bit 3 5 false
    -- 3.4-2 reserved
    ∷ field_bits 3 4 2 0
    -- 3.1-0 analog channel 1 bits 9..8
    ∷ field_bits 3 1 0 (bits_of (get_or averages 1 0) 9 8)
    -- 4.7-0 analog channel 2 bits 7..0
    ∷ field_bits 4 7 0 (bits_of (get_or averages 2 0) 7 0)
    -- 5.7 pipe-OUT busy: "and output busy in 5.7"
    ∷ field_bit 5 7 (busy_of pipe.output)
    -- 5.6 pipe-OUT in error recovery
    ∷ field_bit 5 6 false
    -- 5.5 reset requested while the pipe is busy
    ∷ field_bit 5 5 false
    -- 5.4 writing a packet to the module
    ∷ field_bit 5 4 false
    -- 5.3 a packet received while still writing the one before
    ∷ field_bit 5 3 false
    -- 5.2 module switched power state: "1 when initialised"
    ∷ field_bit 5 2 initialised
    -- 5.1-0 analog channel 2 bits 9..8
    ∷ field_bits 5 1 0 (bits_of (get_or averages 2 0) 9 8)
    -- 6.7-0 analog channel 3 bits 7..0
    ∷ field_bits 6 7 0 (bits_of (get_or averages 3 0) 7 0)
    -- 7.7 module interface not ready
    ∷ field_bit 7 7 false
    -- 7.6 to 7.4 checksums of three memories, 7.3-2 mode bits: "the self-check number in 7.6-2"
    ∷ field_bits 7 6 2 selfcheck
    -- 7.1-0 analog channel 3 bits 9..8
    ∷ field_bits 7 1 0 (bits_of (get_or averages 3 0) 9 8)
    ∷ []

-- 0x28MM Module Status AN47 in byte-pipe mode, each line of the guide: of the eight averages
unfoldable pub lines47 : List ℕ → List Field
lines47 averages =
    -- 0.7-0 reserved
    field_bits 0 7 0 0
    -- 1.7-0 reserved
    ∷ field_bits 1 7 0 0
    -- 2.7-0 analog channel 5 bits 7..0
    ∷ field_bits 2 7 0 (bits_of (get_or averages 5 0) 7 0)
    -- 3.7-2 reserved
    ∷ field_bits 3 7 2 0
    -- 3.1-0 analog channel 5 bits 9..8
    ∷ field_bits 3 1 0 (bits_of (get_or averages 5 0) 9 8)
    -- 4.7-0 analog channel 6 bits 7..0
    ∷ field_bits 4 7 0 (bits_of (get_or averages 6 0) 7 0)
    -- 5.7-2 reserved
    ∷ field_bits 5 7 2 0
    -- 5.1-0 analog channel 6 bits 9..8
    ∷ field_bits 5 1 0 (bits_of (get_or averages 6 0) 9 8)
    -- 6.7-0 analog channel 7 bits 7..0
    ∷ field_bits 6 7 0 (bits_of (get_or averages 7 0) 7 0)
    -- 7.7-2 reserved
    ∷ field_bits 7 7 2 0
    -- 7.1-0 analog channel 7 bits 9..8
    ∷ field_bits 7 1 0 (bits_of (get_or averages 7 0) 9 8)
    ∷ []

-- "The two frames have the byte-pipe layout of document 000 (AN03, then AN47)", of the averages over n passes
unfoldable pub frames_of : ℕ → List ℕ → Pipe → Bool → ℕ → Frames
frames_of n samples pipe initialised selfcheck =
    record {
      an03 = frame (lines03 (averages_of n samples) pipe initialised selfcheck);
      an47 = frame (lines47 (averages_of n samples));
    }
