-- The output half of the pipe, by computation. Request No. 3: "an eight-byte packet from the aircraft is handed to the camera one byte
-- at a time, each byte after the last was taken."
-- Assumes nothing.
use Rattle.std.specs.Prelude.{ℕ, zero, suc, List, [], ◌∷◌, ◌++◌, map, replicate}
use Rattle.std.proofs.lemmas.List.Edits.{sets}
use Rattle.rows.specs.Rows.{refused, gave}
use Rattle.blocks.specs.declared.Store.TheVariants.{Priority}
use Rattle.rules.specs.State.{fresh_pod}
use Rattle.rules.specs.Refusals.{done, reads}
use Rattle.rules.specs.Families.{status, PipeCall, byte, timeout, packet_out, taken, deadline, pipe}
use Rattle.rules.specs.World.{world, power, word, lone, samples, told, next}
use Rattle.examples.specs.Shown.{just_initialised}
use Rattle.examples.specs.Computed.{TalkTurn, asks, brings, dusty}
use Rattle.port_examples.specs.Packets.{Talks, success, wakes, update}
use Rattle.port_examples.specs.PipeAlone.{one_packet, other_packet, PipeAlone, DeadlineAlone}

-- ---- the turns of a talk

-- a pipe call that gives these bytes; one that is refused
abbrev pub yields : PipeCall → List ℕ → TalkTurn
yields c bs = record { call = lone (pipe c); told = told (gave done) bs }

abbrev pub declines : PipeCall → ℕ → TalkTurn
declines c n = record { call = lone (pipe c); told = told (refused n) [] }

-- one byte after the other taken, each giving the next
abbrev pub takes : List ℕ → List TalkTurn
takes bs = map (λ (b : ℕ). yields taken (b ∷ [])) bs

-- the frames of samples all 0, by bytes 0, 3 and 5 of AN03: the timeouts of both halves, 128 where bytes are gathered, 128 for busy and
-- 4 for awake
abbrev pub frame03 : ℕ → ℕ → ℕ → TalkTurn
frame03 a b c = record { call = samples 0 (replicate 128 0); told = told (gave done) (a ∷ 0 ∷ 0 ∷ b ∷ 0 ∷ c ∷ replicate 10 0) }

abbrev pub turns_on : TalkTurn
turns_on = record { call = power; told = told (gave done) [] }

abbrev pub shuts_down : TalkTurn
shuts_down = asks (0x9F ∷ 0x01 ∷ 0x05 ∷ 0xFB ∷ []) (success 0x9F 0x34 0xFC)

-- a Status, with parameters 1, 2, 3, 6 and 7 asked in its answer, and its acknowledgement
abbrev pub reports : TalkTurn
reports =
    asks (0x91 ∷ 0x01 ∷ 0x26 ∷ 0xF4 ∷ []) (0x91 ∷ 0x01 ∷ replicate 10 0 ++ (0x01 ∷ 0x02 ∷ 0x03 ∷ 0x06 ∷ 0x07 ∷ 0x00 ∷ 0x00 ∷ 0x00 ∷ 0x69 ∷ 0xC4 ∷ []))

abbrev pub acknowledges91 : TalkTurn
acknowledges91 = asks (0x91 ∷ 0x01 ∷ 0x7E ∷ 0x2F ∷ 0xFD ∷ []) []

-- a deadline, and the status word of the table port
abbrev pub runs_late : TalkTurn
runs_late = record { call = lone deadline; told = told (gave done) [] }

abbrev pub shows_status : TalkTurn
shows_status = record { call = word status; told = told (gave (reads 0)) [] }

-- ---- asleep, from power on

abbrev pub asleep_first : List TalkTurn
asleep_first =
    turns_on
    -- "one not of 8 bytes (22), and 6 as before; 22 before 6"
    ∷ declines (packet_out (replicate 7 0xA1)) 22
    ∷ declines (packet_out one_packet) 6
    ∷ declines (packet_out (0xA0 ∷ one_packet)) 22
    ∷ declines (packet_out []) 22
    ∷ declines taken 6
    ∷ declines timeout 6
    ∷ frame03 0x00 0 0
    -- and nothing came of it
    ∷ wakes
    ∷ yields taken []
    ∷ frame03 0x00 0 4
    ∷ []

-- ---- awake: packets whole

abbrev pub handed_over : List TalkTurn
handed_over =
    declines (packet_out (replicate 7 0xA1)) 22
    ∷ frame03 0x00 0 4
    -- "handed to the camera one byte at a time": the first at once; "output busy in 5.7"
    ∷ yields (packet_out one_packet) (0xA1 ∷ [])
    ∷ frame03 0x00 0 132
    -- "a packet while one is being handed over (21)", with 8, 4 and 1 in hand; "21 last"
    ∷ declines (packet_out other_packet) 21
    ∷ declines (packet_out (0xB0 ∷ other_packet)) 22
    -- "each byte after the last was taken"
    ∷ yields taken (0xA2 ∷ [])
    ∷ yields taken (0xA3 ∷ [])
    ∷ yields taken (0xA4 ∷ [])
    ∷ yields taken (0xA5 ∷ [])
    ∷ frame03 0x00 0 132
    ∷ declines (packet_out other_packet) 21
    ∷ yields taken (0xA6 ∷ [])
    ∷ yields taken (0xA7 ∷ [])
    ∷ yields taken (0xA8 ∷ [])
    ∷ frame03 0x00 0 132
    ∷ declines (packet_out other_packet) 21
    ∷ yields taken []
    ∷ frame03 0x00 0 4
    -- "A taken or a timeout with nothing in hand does nothing."
    ∷ yields taken []
    ∷ yields timeout []
    ∷ frame03 0x00 0 4
    -- and the next packet may come as soon as the last byte of one was taken
    ∷ yields (packet_out other_packet) (0x00 ∷ [])
    ∷ takes (0xB2 ∷ 0x00 ∷ 0xB4 ∷ 0xB5 ∷ 0xB6 ∷ 0xB7 ∷ 0x00 ∷ [])
    ++ (yields taken []
    ∷ yields (packet_out one_packet) (0xA1 ∷ [])
    ∷ yields taken (0xA2 ∷ [])
    ∷ frame03 0x00 0 132
    ∷ [])

-- ---- the rest of a packet dropped

abbrev pub rest_dropped : List TalkTurn
rest_dropped =
    -- "If the camera stops taking them, the rest of that packet is dropped and an output timeout is counted": once
    yields (packet_out other_packet) (0x00 ∷ [])
    ∷ yields taken (0xB2 ∷ [])
    ∷ yields taken (0x00 ∷ [])
    ∷ yields timeout []
    ∷ frame03 0x01 0 4
    ∷ yields taken []
    ∷ yields timeout []
    ∷ frame03 0x01 0 4
    -- and the next packet begins anew; of it the last byte alone is dropped
    ∷ yields (packet_out one_packet) (0xA1 ∷ [])
    ∷ takes (0xA2 ∷ 0xA3 ∷ 0xA4 ∷ 0xA5 ∷ 0xA6 ∷ 0xA7 ∷ 0xA8 ∷ [])
    ++ (yields timeout []
    ∷ frame03 0x02 0 4
    ∷ yields taken []
    -- directly behind a timeout
    ∷ yields (packet_out one_packet) (0xA1 ∷ [])
    ∷ yields timeout []
    ∷ yields (packet_out other_packet) (0x00 ∷ [])
    ∷ yields taken (0xB2 ∷ [])
    ∷ frame03 0x03 0 132
    ∷ [])

-- ---- the count

-- so many packets dropped whole
abbrev pub drops_each : ℕ → List TalkTurn
drops_each zero = []
drops_each (suc n) = yields (packet_out one_packet) (0xA1 ∷ []) ∷ yields timeout [] ∷ drops_each n

-- "AN03 then carries the count in 0.3-0", "15 meaning 15 or more", beside two input timeouts in 0.7-4
abbrev pub counted_drops : List TalkTurn
counted_drops =
    yields (byte 9) []
    ∷ yields timeout (9 ∷ [])
    ∷ yields (byte 9) []
    ∷ yields timeout (9 ∷ [])
    ∷ frame03 0x20 0 4
    ∷ drops_each 14
    ++ (frame03 0x2E 0 4
    ∷ drops_each 1
    ++ (frame03 0x2F 0 4
    ∷ drops_each 1
    ++ (frame03 0x2F 0 4
    ∷ [])))

-- ---- both halves

abbrev pub both_halves : List TalkTurn
both_halves =
    -- bytes gathered and bytes in hand, at one timeout: only the gathered go to the aircraft, and each half counts its own
    yields (byte 1) []
    ∷ yields (byte 2) []
    ∷ yields (packet_out one_packet) (0xA1 ∷ [])
    ∷ yields taken (0xA2 ∷ [])
    ∷ frame03 0x00 128 132
    ∷ yields timeout (1 ∷ 2 ∷ [])
    ∷ frame03 0x11 0 4
    ∷ yields taken []
    -- one half alone, the other alone
    ∷ yields (byte 3) []
    ∷ yields timeout (3 ∷ [])
    ∷ frame03 0x21 0 4
    ∷ yields (packet_out other_packet) (0x00 ∷ [])
    ∷ yields timeout []
    ∷ frame03 0x22 0 4
    -- "the eighth sends all eight", past a packet in hand
    ∷ yields (packet_out one_packet) (0xA1 ∷ [])
    ∷ map (λ (b : ℕ). yields (byte b) []) (1 ∷ 2 ∷ 3 ∷ 4 ∷ 5 ∷ 6 ∷ 7 ∷ [])
    ++ (yields taken (0xA2 ∷ [])
    ∷ yields (byte 8) (1 ∷ 2 ∷ 3 ∷ 4 ∷ 5 ∷ 6 ∷ 7 ∷ 8 ∷ [])
    ∷ yields taken (0xA3 ∷ [])
    ∷ [])

-- ---- what keeps the bytes in hand and the count, and what empties this half

abbrev pub outlasting : List TalkTurn
outlasting =
    drops_each 1
    ++ (yields (packet_out other_packet) (0x00 ∷ [])
    ∷ yields taken (0xB2 ∷ [])
    -- a deadline keeps it, and so do a Status, its acknowledgement, a put, a status word and an Update
    ∷ runs_late
    ∷ yields taken (0x00 ∷ [])
    ∷ reports
    ∷ yields taken (0xB4 ∷ [])
    ∷ acknowledges91
    ∷ yields taken (0xB5 ∷ [])
    ∷ brings Priority 0x11
    ∷ yields taken (0xB6 ∷ [])
    ∷ shows_status
    ∷ yields taken (0xB7 ∷ [])
    ∷ update
    ∷ yields taken (0x00 ∷ [])
    -- so does a Shutdown, and then "6 as before"
    ∷ shuts_down
    ∷ declines taken 6
    ∷ declines timeout 6
    ∷ declines (packet_out one_packet) 6
    ∷ frame03 0x01 0 128
    -- "Initialise empties this half too and sets its count to 0": asleep, and awake
    ∷ wakes
    ∷ frame03 0x00 0 4
    ∷ yields taken []
    ∷ drops_each 1
    ++ (yields (packet_out one_packet) (0xA1 ∷ [])
    ∷ wakes
    ∷ frame03 0x00 0 4
    ∷ yields taken []
    ∷ yields timeout []
    ∷ frame03 0x00 0 4
    -- and so does power on
    ∷ drops_each 1
    ++ (yields (packet_out one_packet) (0xA1 ∷ [])
    ∷ frame03 0x01 0 132
    ∷ turns_on ∷ frame03 0x00 0 0
    ∷ wakes
    ∷ yields taken []
    ∷ frame03 0x00 0 4
    ∷ [])))

pub record PipeOut : Type 0 where
  pub asleep : Talks (world fresh_pod dusty) asleep_first
  pub awake : Talks just_initialised handed_over
  pub dropped : Talks just_initialised rest_dropped
  pub counted : Talks just_initialised counted_drops
  pub both : Talks just_initialised both_halves
  pub outlasts : Talks just_initialised outlasting
  pub alone : PipeAlone
  pub late : DeadlineAlone
