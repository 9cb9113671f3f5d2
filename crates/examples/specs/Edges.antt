-- "Refused calls", by computation: which number a call is refused by, lowest first but for request No. 3's, and on which side of each
-- bound.
-- Assumes nothing.
use Rattle.std.specs.Prelude.{ℕ, List, [], ◌∷◌, ◌++◌, map, get_or, replicate}
use Rattle.rows.specs.Rows.{Said, refused, gave}
use Rattle.blocks.specs.declared.Store.{Store}
use Rattle.blocks.specs.declared.Store.TheVariants.{Priority, Ordinary}
use Rattle.tables.specs.Tables.{three}
use Rattle.rules.specs.declared.Pod.{Pod}
use Rattle.rules.specs.State.{with_ring, with_pipe, with_tables}
use Rattle.rules.specs.Refusals.{Giving}
use Rattle.rules.specs.Families.{command, data_in, data_out, status, byte, timeout, packet_out, taken, deadline, pipe}
use Rattle.rules.specs.World.{World, with_pod, Call, power, packet, put, word, lone, samples, step}
use Rattle.rules.specs.Demands.{just_powered}
use Rattle.examples.specs.Shown.{just_initialised, ComputedLine, line, AsExpected}

-- the number that a call is refused by, none where it is answered
abbrev pub refused_by : Said Giving → List ℕ
refused_by (refused n) = n ∷ []
refused_by (gave g) = []

abbrev pub refusal_in : World → Call → List ℕ
refusal_in w c = refused_by (step w c).told.said

-- call by call the number that it is refused by, 0 where it is answered, each called on the same world
abbrev pub refusals_in : World → List Call → List ℕ
refusals_in w cs = map (λ (c : Call). get_or (refusal_in w c) 0 0) cs

-- so many timeouts counted; the tables gone; so many blocks waiting
abbrev pub counting : ℕ → World → World
counting n w = with_pod (with_pipe (record { input = record { bytes = replicate 8 0; gathered = 0; timeouts = n }; output = w.pod.pipe.output }) w.pod) w

abbrev pub bare : World → World
bare w = record { pod = w.pod; lent = with_tables (three [] [] []) w.lent }

abbrev pub holding : Store → ℕ → World → World
holding s n w = with_pod (with_ring s (record { oldest = 0; waiting = n }) w.pod) w

abbrev pub broken : World
broken = counting 16 just_powered

-- so many bytes in hand for the camera, after so many output timeouts
abbrev pub outward : ℕ → ℕ → Pod → Pod
outward hand n p = with_pipe (record { input = p.pipe.input; output = record { bytes = replicate 8 0; hand = hand; timeouts = n } }) p

abbrev pub handling : ℕ → ℕ → World → World
handling hand n w = with_pod (outward hand n w.pod) w

-- a packet for the camera of so many bytes, and its byte taken
abbrev pub offered : ℕ → Call
offered n = lone (pipe (packet_out (replicate n 0)))

abbrev pub took : Call
took = lone (pipe taken)

-- every call that judges the state, with nothing else wrong
abbrev pub judges : List Call
judges =
    packet [] (replicate 260 0)
    ∷ put Priority (replicate 256 0)
    ∷ put Ordinary (replicate 256 0)
    ∷ word (command 0x8000)
    ∷ word (data_in 0)
    ∷ word data_out
    ∷ word status
    ∷ lone deadline
    ∷ lone (pipe (byte 0))
    ∷ lone (pipe timeout)
    ∷ offered 8
    ∷ took
    ∷ samples 0 (replicate 128 0)
    ∷ []

-- what they are refused by in a state within its bounds, awake and asleep: none; the puts and the pipe while not initialised by 6
abbrev pub judged_awake : List ℕ
judged_awake = replicate 13 0

abbrev pub judged_asleep : List ℕ
judged_asleep = 0 ∷ 6 ∷ 6 ∷ replicate 5 0 ++ (replicate 4 6 ++ (0 ∷ []))

-- the table, with a pod that is awake
abbrev pub edges : World → List ComputedLine
edges awake =
    -- each number, where higher rows hold too
    line (refusal_in (bare broken) (packet [] [])) (1 ∷ [])
    ∷ line (refusal_in (bare broken) (packet [] (replicate 260 0))) (2 ∷ [])
    ∷ line (refusal_in broken (put Priority [])) (3 ∷ [])
    ∷ line (refusal_in just_powered (put Priority [])) (4 ∷ [])
    ∷ line (refusal_in just_powered (samples 32 (replicate 128 0))) (5 ∷ [])
    ∷ line (refusal_in just_powered (lone (pipe (byte 0)))) (6 ∷ [])
    ∷ line (refusal_in (holding Priority 16 just_powered) (put Priority (replicate 256 0))) (6 ∷ [])
    ∷ line (refusal_in (holding Priority 16 awake) (put Priority (replicate 256 0))) (7 ∷ [])
    -- 1: "answer room under 260 bytes"
    ∷ line (refusal_in just_powered (packet [] (replicate 259 0))) (1 ∷ [])
    ∷ line (refusal_in just_powered (packet [] (replicate 260 0))) []
    -- 2: power, a command word and the data words are lent the tables, the status word and the deadline are not
    ∷ line (refusal_in (bare just_powered) power) (2 ∷ [])
    ∷ line (refusal_in (bare just_powered) (word (command 0))) (2 ∷ [])
    ∷ line (refusal_in (bare just_powered) (word (data_in 0))) (2 ∷ [])
    ∷ line (refusal_in (bare just_powered) (word data_out)) (2 ∷ [])
    ∷ line (refusal_in (bare just_powered) (word status)) []
    ∷ line (refusal_in (bare just_powered) (lone deadline)) []
    -- 3: every call but power on judges the state
    ∷ line (refusal_in broken (packet [] (replicate 260 0))) (3 ∷ [])
    ∷ line (refusal_in broken (lone deadline)) (3 ∷ [])
    ∷ line (refusal_in broken (word status)) (3 ∷ [])
    ∷ line (refusal_in broken (lone (pipe (byte 0)))) (3 ∷ [])
    ∷ line (refusal_in broken (samples 0 [])) (3 ∷ [])
    ∷ line (refusal_in broken power) []
    ∷ line (refusal_in (counting 15 just_powered) (lone deadline)) []
    -- 4: "a block is not 256 bytes, or a sample set not 128 numbers"
    ∷ line (refusal_in awake (put Priority (replicate 255 0))) (4 ∷ [])
    ∷ line (refusal_in awake (put Priority (replicate 257 0))) (4 ∷ [])
    ∷ line (refusal_in just_powered (samples 0 (replicate 127 0))) (4 ∷ [])
    ∷ line (refusal_in just_powered (samples 0 (replicate 129 0))) (4 ∷ [])
    -- 5: "a sample is over 1,023, or the self-check number over 31"
    ∷ line (refusal_in just_powered (samples 31 (replicate 128 1024))) (5 ∷ [])
    ∷ line (refusal_in just_powered (samples 31 (replicate 128 1023))) []
    -- 6: "block or pipe call while the pod is not initialised"
    ∷ line (refusal_in just_powered (lone (pipe timeout))) (6 ∷ [])
    ∷ line (refusal_in awake (lone (pipe (byte 0)))) []
    ∷ line (refusal_in awake (lone (pipe timeout))) []
    -- 7: "that store is full", of 16 or of 128 blocks
    ∷ line (refusal_in (holding Priority 15 awake) (put Priority (replicate 256 0))) []
    ∷ line (refusal_in (holding Ordinary 128 awake) (put Ordinary (replicate 256 0))) (7 ∷ [])
    ∷ line (refusal_in (holding Ordinary 127 awake) (put Ordinary (replicate 256 0))) []
    ∷ line (refusal_in (holding Priority 16 awake) (put Ordinary (replicate 256 0))) []
    ∷ []

-- request No. 3's numbers
abbrev pub outward_edges : World → List ComputedLine
outward_edges awake =
    -- "22 before 6, 21 last": each number, where those behind it hold too
    line (refusal_in (handling 9 0 just_powered) (offered 7)) (3 ∷ [])
    ∷ line (refusal_in (handling 8 0 just_powered) (offered 7)) (22 ∷ [])
    ∷ line (refusal_in (handling 8 0 just_powered) (offered 8)) (6 ∷ [])
    ∷ line (refusal_in (handling 8 0 awake) (offered 8)) (21 ∷ [])
    -- 22: "one not of 8 bytes"
    ∷ line (refusal_in awake (offered 0)) (22 ∷ [])
    ∷ line (refusal_in awake (offered 7)) (22 ∷ [])
    ∷ line (refusal_in awake (offered 9)) (22 ∷ [])
    -- 21: "a packet while one is being handed over", to its last byte
    ∷ line (refusal_in (handling 1 0 awake) (offered 8)) (21 ∷ [])
    ∷ line (refusal_in (handling 0 15 awake) (offered 8)) []
    -- "and 6 as before"; a byte may be taken with none in hand
    ∷ line (refusal_in (handling 8 0 just_powered) took) (6 ∷ [])
    ∷ line (refusal_in awake took) []
    ∷ line (refusal_in (handling 8 0 awake) took) []
    -- 3: "The state's bounds gain two: 0 to 8 bytes in hand, and output timeouts 0 to 15", for every call but power on
    ∷ line (refusals_in (handling 9 15 awake) judges) (replicate 13 3)
    ∷ line (refusals_in (handling 8 16 awake) judges) (replicate 13 3)
    ∷ line (refusals_in (handling 9 0 just_powered) judges) (replicate 13 3)
    ∷ line (refusals_in (handling 0 16 just_powered) judges) (replicate 13 3)
    -- within them, only a second packet; asleep, the two puts and the four pipe calls
    ∷ line (refusals_in (handling 8 15 awake) judges) (replicate 10 0 ++ (21 ∷ 0 ∷ 0 ∷ []))
    ∷ line (refusals_in (handling 8 15 just_powered) judges) judged_asleep
    ∷ line (refusal_in (handling 9 16 just_powered) power) []
    ∷ []

pub record Edges : Type 0 where
  pub numbers : AsExpected (edges just_initialised)
  pub outward : AsExpected (outward_edges just_initialised)
