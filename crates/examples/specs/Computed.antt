-- What stands beside statements that judge by a rule's own test: lines with numbers written out, and one conversation whole.
-- Assumes nothing.
use Rattle.std.specs.Prelude.{ℕ, ◌≡◌, List, [], ◌∷◌, ◌++◌, map, replicate}
use Rattle.rows.specs.Rows.{gave}
use Rattle.blocks.specs.declared.Store.{Store}
use Rattle.blocks.specs.declared.Store.TheVariants.{Priority, Ordinary}
use Rattle.tables.specs.Tables.{three, listed}
use Rattle.rules.specs.State.{Lent, fresh_pod}
use Rattle.rules.specs.Refusals.{done}
use Rattle.rules.specs.Families.{status, PipeCall, byte, timeout, deadline, pipe}
use Rattle.rules.specs.World.{world, Call, power, packet, put, word, lone, samples, Told, told, answering, step, final, tells}
use Rattle.examples.specs.Shown.{just_initialised, words_out, status_after, five_after, order, loading, reading, load, read, ComputedLine, line, AsExpected}

-- a Shutdown
abbrev pub off : List Call
off = packet (0x9F ∷ 0x01 ∷ 0x05 ∷ 0xFB ∷ []) (replicate 260 0) ∷ []

-- the status word
abbrev pub shows : List Call
shows = word status ∷ []

-- bytes for the pipe, and what a call of it then sends
abbrev pub bytes_in : List ℕ → List Call
bytes_in bs = map (λ (b : ℕ). lone (pipe (byte b))) bs

abbrev pub sent_after : List Call → PipeCall → List ℕ
sent_after cs c = (step (final just_initialised cs) (lone (pipe c))).told.bytes

-- the two frames after some calls, of a self-check number and the samples 0 to 127: channel c averages 60 + c
abbrev pub frames_shown : List Call → ℕ → List ℕ
frames_shown cs k = (step (final just_initialised cs) (samples k (listed (λ (i : ℕ). i) 128))).told.bytes

-- those frames, by bytes 3, 5 and 7
abbrev pub frames_with : ℕ → ℕ → ℕ → List ℕ
frames_with a b c = 0 ∷ 0 ∷ 61 ∷ a ∷ 62 ∷ b ∷ 63 ∷ c ∷ 0 ∷ 0 ∷ 65 ∷ 0 ∷ 66 ∷ 0 ∷ 67 ∷ 0 ∷ []

-- the table; x, y and z are any words
abbrev pub computed : ℕ → ℕ → ℕ → List ComputedLine
computed x y z =
    -- LoadWhole: a load to table 5 whose word 1 or word 3 is wrong is not taken; one to table 6 is, and to no other table
    line (five_after (load 6 63 1 x) ++ status_after (load 6 63 1 x)) (replicate 64 0 ++ (2 ∷ []))
    ∷ line (five_after (load 5 63 2 x) ++ status_after (load 5 63 2 x)) (replicate 64 0 ++ (2 ∷ []))
    ∷ line (five_after (order 0x8C06 ++ loading (6 ∷ 1 ∷ 3 ∷ x ∷ y ∷ z ∷ []))) (replicate 64 0)
    -- ReadWhole, ReadMoves: table 6, twice; table 7 as it starts, twice
    ∷ line (words_out (order 0x8C06 ++ loading (6 ∷ 1 ∷ 3 ∷ x ∷ y ∷ z ∷ []) ++ order 0x4C06 ++ reading 6 ++ order 0x4C06 ++ reading 6))
    (6 ∷ 0 ∷ 3 ∷ 0 ∷ x ∷ y ∷ 6 ∷ 3 ∷ 3 ∷ z ∷ 0 ∷ 0 ∷ [])
    ∷ line (words_out (order 0xCE06 ++ reading 6 ++ order 0xCE06 ++ reading 6))
    (7 ∷ 0 ∷ 3 ∷ 0 ∷ 256 ∷ 512 ∷ 7 ∷ 3 ∷ 3 ∷ 768 ∷ 1024 ∷ 1280 ∷ [])
    -- TablesOnly: 0001 puts loaded tables back to their starts
    ∷ line (five_after (load 5 63 1 x ++ order 0x0001)) (replicate 64 0)
    ∷ line (words_out (order 0x8E04 ++ loading (7 ∷ 1 ∷ 1 ∷ x ∷ []) ++ order 0x0001 ++ order 0xCE06 ++ reading 6)) (7 ∷ 0 ∷ 3 ∷ 0 ∷ 256 ∷ 512 ∷ [])
    -- StatusWordShows: message error, and then no more
    ∷ line (words_out (order 0x0000 ++ (word status ∷ word status ∷ []))) (2 ∷ 0 ∷ [])
    -- MessageError, TransferOnly: 8000 cuts an address, cuts a read, and comes after an address that has its word
    ∷ line (words_out (order 0x8201 ++ order 0x8000 ++ shows ++ order 0xCA04 ++ order 0x8000 ++ shows ++ order 0x8201 ++ loading (3 ∷ []) ++ order 0x8000 ++ shows))
    (2 ∷ 2 ∷ 0 ∷ [])
    -- MessageError: words not accepted: even ones; stop reading; N 3 and N 65; command 2
    ∷ line (words_out (order 0x8A04 ++ shows ++ order 0x4000 ++ shows ++ order 0x8A03 ++ shows ++ order 0x8A41 ++ shows ++ order 0x8404 ++ shows))
    (2 ∷ 2 ∷ 2 ∷ 2 ∷ 2 ∷ [])
    -- and 8000 while asleep: the Shutdown's answer has 5 bytes, and it sets none itself
    ∷ line (words_out (off ++ shows ++ order 0x8000 ++ shows)) (5 ∷ 0 ∷ 2 ∷ [])
    -- ReadsShown: with nothing open; PlacesOnly: a given address goes before a place that has moved
    ∷ line (words_out (reading 1 ++ read ++ order 0x8201 ++ loading (3 ∷ []) ++ read)) (0 ∷ 5 ∷ 0 ∷ 1 ∷ 0 ∷ 5 ∷ 3 ∷ 1 ∷ 0 ∷ [])
    -- FramesAreHistory: awake; with a byte gathered, a deadline past; and both asleep
    ∷ line (frames_shown [] 0) (frames_with 0 4 0)
    ∷ line (frames_shown (lone (pipe (byte 9)) ∷ lone deadline ∷ []) 5) (frames_with 128 4 20)
    ∷ line (frames_shown (lone (pipe (byte 9)) ∷ off) 0) (frames_with 128 0 0)
    ∷ line (frames_shown off 5) (frames_with 0 0 20)
    -- "its sum divided by 16, rounded down": sums of 15 give 0
    ∷ line (step just_initialised (samples 0 (replicate 8 15 ++ replicate 120 0))).told.bytes (replicate 5 0 ++ (4 ∷ replicate 10 0))
    -- PipeIsHistory: "the eighth sends all eight"; "a short packet"
    ∷ line (sent_after (bytes_in (1 ∷ 2 ∷ 3 ∷ 4 ∷ 5 ∷ 6 ∷ 7 ∷ [])) (byte 8)) (1 ∷ 2 ∷ 3 ∷ 4 ∷ 5 ∷ 6 ∷ 7 ∷ 8 ∷ [])
    ∷ line (sent_after (bytes_in (1 ∷ 2 ∷ 3 ∷ 4 ∷ 5 ∷ 6 ∷ 7 ∷ 8 ∷ 9 ∷ 10 ∷ [])) timeout) (9 ∷ 10 ∷ [])
    ∷ line (sent_after (bytes_in (1 ∷ [])) (byte 2)) []
    ∷ []

abbrev pub Computed : Type 0
Computed = (x y z : ℕ) → AsExpected (computed x y z)

-- ---- a conversation from power on

pub record TalkTurn : Type 0 where
  pub call : Call
  pub told : Told

-- a packet and its whole answer, a block put
abbrev pub asks : List ℕ → List ℕ → TalkTurn
asks b answer = record { call = packet b (replicate 260 0); told = answering (replicate 260 0) answer }

abbrev pub brings : Store → ℕ → TalkTurn
brings s b = record { call = put s (replicate 256 b); told = told (gave done) [] }

-- all that is lent, with anything in it
abbrev pub dusty : Lent
dusty =
    record {
      priority = replicate 4096 0xEE;
      ordinary = replicate 32768 0xEE;
      tables = three (replicate 64 0xEE) (replicate 128 0xEE) (replicate 64 0xEE);
      load = replicate 64 0xEE;
    }

abbrev pub conversation : List TalkTurn
conversation =
    record { call = power; told = told (gave done) [] }
    -- PacketAnswered: document 01's session, not initialised, no code, too short, empty
    ∷ asks (0x9F ∷ 0x01 ∷ 0x05 ∷ 0xFB ∷ []) (0x9F ∷ 0x09 ∷ 0x38 ∷ 0x95 ∷ 0x57 ∷ [])
    ∷ asks (0xFF ∷ 0xFF ∷ 0x00 ∷ 0x00 ∷ []) (0xFF ∷ 0x09 ∷ 0x02 ∷ 0x99 ∷ 0x25 ∷ [])
    ∷ asks (0x91 ∷ []) (0x91 ∷ 0x09 ∷ 0x01 ∷ 0x29 ∷ 0x2C ∷ [])
    ∷ asks [] []
    -- Initialise: mode 1, flags 1234, 5.250 s, priority limit 4 and remaining 2, memory limit 9 and remaining 1, poll 1,000
    ∷ asks
    (0x90 ∷ 0x01 ∷ 0x01 ∷ 0x12 ∷ 0x34 ∷ 0x00 ∷ 0x00 ∷ 0x14 ∷ 0xFA ∷ 0x00 ∷ 0x04 ∷ 0x00 ∷ 0x02 ∷ 0x00 ∷ 0x00 ∷ 0x00 ∷ 0x09 ∷ 0x00 ∷ 0x00 ∷ 0x00 ∷ 0x01 ∷ 0x03 ∷ 0xE8 ∷ 0x31 ∷ 0x04 ∷ [])
    (0x90 ∷ 0x01 ∷ 0x7E ∷ 0x18 ∷ 0xCD ∷ [])
    ∷ brings Priority 0x11
    ∷ brings Priority 0x22
    ∷ brings Priority 0x33
    ∷ brings Ordinary 0x44
    ∷ brings Ordinary 0x55
    -- Status: 3 and 2 blocks wait, parameters 1, 2, 3, 6 and 7 are asked
    ∷ asks (0x91 ∷ 0x01 ∷ 0x26 ∷ 0xF4 ∷ [])
    (0x91 ∷ 0x01 ∷ 0x01 ∷ 0x12 ∷ 0x34 ∷ 0x00 ∷ 0x03 ∷ 0x00 ∷ 0x00 ∷ 0x00 ∷ 0x02 ∷ 0x00 ∷ 0x01 ∷ 0x02 ∷ 0x03 ∷ 0x06 ∷ 0x07 ∷ 0x00 ∷ 0x00 ∷ 0x00 ∷ 0x10 ∷ 0xD5 ∷ [])
    -- a priority block is sent, and kept by the next receive
    ∷ asks (0x95 ∷ 0x01 ∷ 0xEA ∷ 0x30 ∷ []) (0x95 ∷ 0x01 ∷ replicate 256 0x11 ++ (0xE0 ∷ 0xFC ∷ []))
    -- an ordinary block is sent and acknowledged; one more waits, and remaining is 0
    ∷ asks (0x96 ∷ 0x01 ∷ 0xBF ∷ 0x63 ∷ []) (0x96 ∷ 0x01 ∷ replicate 256 0x44 ++ (0x09 ∷ 0xA4 ∷ []))
    ∷ asks (0x96 ∷ 0x01 ∷ 0x7E ∷ 0xAA ∷ 0x6D ∷ []) []
    ∷ asks (0x96 ∷ 0x01 ∷ 0xBF ∷ 0x63 ∷ []) (0x96 ∷ 0x09 ∷ 0x3B ∷ 0x3B ∷ 0xA5 ∷ [])
    -- two priority blocks are sent and acknowledged; one more waits, and remaining is 0
    ∷ asks (0x95 ∷ 0x01 ∷ 0xEA ∷ 0x30 ∷ []) (0x95 ∷ 0x01 ∷ replicate 256 0x11 ++ (0xE0 ∷ 0xFC ∷ []))
    ∷ asks (0x95 ∷ 0x01 ∷ 0x7E ∷ 0xF3 ∷ 0x3D ∷ []) []
    ∷ asks (0x95 ∷ 0x01 ∷ 0xEA ∷ 0x30 ∷ []) (0x95 ∷ 0x01 ∷ replicate 256 0x22 ++ (0xE7 ∷ 0x97 ∷ []))
    ∷ asks (0x95 ∷ 0x01 ∷ 0x7E ∷ 0xF3 ∷ 0x3D ∷ []) []
    ∷ asks (0x95 ∷ 0x01 ∷ 0xEA ∷ 0x30 ∷ []) (0x95 ∷ 0x09 ∷ 0x3B ∷ 0x62 ∷ 0xF5 ∷ [])
    -- Status: 1 and 1 block wait
    ∷ asks (0x91 ∷ 0x01 ∷ 0x26 ∷ 0xF4 ∷ [])
    (0x91 ∷ 0x01 ∷ 0x01 ∷ 0x12 ∷ 0x34 ∷ 0x00 ∷ 0x01 ∷ 0x00 ∷ 0x00 ∷ 0x00 ∷ 0x01 ∷ 0x00 ∷ 0x01 ∷ 0x02 ∷ 0x03 ∷ 0x06 ∷ 0x07 ∷ 0x00 ∷ 0x00 ∷ 0x00 ∷ 0x57 ∷ 0xD8 ∷ [])
    -- ReadIsWritten: parameter 1 starts at -2000; -1000 is written, and read
    ∷ asks (0x94 ∷ 0x01 ∷ 0x01 ∷ 0x4B ∷ 0x75 ∷ []) (0x94 ∷ 0x01 ∷ 0x01 ∷ 0xFF ∷ 0xFF ∷ 0xF8 ∷ 0x30 ∷ 0x6B ∷ 0x80 ∷ [])
    ∷ asks (0x93 ∷ 0x01 ∷ 0x01 ∷ 0xFF ∷ 0xFF ∷ 0xFC ∷ 0x18 ∷ 0x1B ∷ 0x6A ∷ []) (0x93 ∷ 0x01 ∷ 0x7E ∷ 0x41 ∷ 0x9D ∷ [])
    ∷ asks (0x94 ∷ 0x01 ∷ 0x01 ∷ 0x4B ∷ 0x75 ∷ []) (0x94 ∷ 0x01 ∷ 0x01 ∷ 0xFF ∷ 0xFF ∷ 0xFC ∷ 0x18 ∷ 0x02 ∷ 0x2E ∷ [])
    ∷ []

-- BlocksAreHistory, ReceiveIsHistory, StatusIsHistory: a block is put, sent, kept, sent again, acknowledged and dropped, and
-- remaining falls to where no more is sent
abbrev pub Conversation : Type 0
Conversation = tells (world fresh_pod dusty) (map (λ (t : TalkTurn). t.call) conversation) ≡ map (λ (t : TalkTurn). t.told) conversation
