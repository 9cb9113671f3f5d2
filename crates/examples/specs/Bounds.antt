-- "Bounds of the state", the parameters' rows and the exact sizes, by computation: each bound at its last value and one past it.
-- Assumes nothing.
use Rattle.std.specs.Prelude.{ℕ, Bool, true, cond, ◌≡◌, List, [], ◌∷◌, ◌++◌, map, ℤ, pos, replicate}
use Rattle.blocks.specs.declared.Store.{Store}
use Rattle.blocks.specs.declared.Store.TheVariants.{Priority, Ordinary}
use Rattle.params.specs.Rows.{minus}
use Rattle.params.specs.Rules.{start_params, stored, write_allowed}
use Rattle.orders.specs.declared.Table.TheVariants.{Five, Six, Seven}
use Rattle.tables.specs.declared.Transfer.{Transfer}
use Rattle.tables.specs.declared.Transfer.TheVariants.{Address, Load, Read}
use Rattle.tables.specs.Tables.{three}
use Rattle.tables.specs.Port.{header, start_words, with_places, with_transfer}
use Rattle.rules.specs.declared.Exchange.TheVariants as exchange
use Rattle.rules.specs.declared.Pod.{Pod}
use Rattle.rules.specs.State.{fresh_pod, with_initialised, with_fields, with_params, with_exchange, with_words, with_ring, with_pipe}
use Rattle.rules.specs.Families.{deadline}
use Rattle.rules.specs.World.{World, world, with_pod, packet, lone, samples, is_answered}
use Rattle.rules.specs.Demands.{just_powered}
use Rattle.examples.specs.Shown.{ComputedLine, line, AsExpected}
use Rattle.examples.specs.Edges.{refusal_in, outward}

-- ---- the parameters

-- the twelve starts
abbrev pub Starts : Type 0
Starts =
    start_params.values
    ≡ minus 2000 ∷ pos 12000 ∷ pos 950 ∷ pos 1000 ∷ pos 16 ∷ pos 2000 ∷ pos 0 ∷ pos 0 ∷ pos 0 ∷ pos 0 ∷ pos 0 ∷ pos 0 ∷ []

abbrev pub one_if : Bool → ℕ
one_if b = cond b 1 0

-- an awake pod as from power, with one part changed; and one asleep
abbrev pub bent : (Pod → Pod) → World
bent f = with_pod (f (with_initialised true fresh_pod)) just_powered

abbrev pub asleep : (Pod → Pod) → World
asleep f = with_pod (f fresh_pod) just_powered

-- 1 for each of some values that a write of an id takes, else 0; then the same of a state that holds it
abbrev pub valued : ℕ → List ℤ → List ℕ
valued id vs =
    map (λ (v : ℤ). one_if (write_allowed start_params id v)) vs
    ++ map (λ (v : ℤ). one_if (is_answered (bent (with_params (stored start_params id v))) (lone deadline))) vs

-- by id: one below the least, the least, the most, one above; "parameter 1 below parameter 2" ends the first two sooner
abbrev pub values_bounded : List ComputedLine
values_bounded =
    -- "Ids 0 and over 12 get 0x39"
    line (map (λ (id : ℕ). one_if (write_allowed start_params id (pos 0))) (0 ∷ 13 ∷ [])) (0 ∷ 0 ∷ [])
    ∷ map (λ (l : List ℕ). line l (0 ∷ 1 ∷ 1 ∷ 0 ∷ 0 ∷ 1 ∷ 1 ∷ 0 ∷ []))
    (valued 1 (minus 4001 ∷ minus 4000 ∷ pos 11999 ∷ pos 12000 ∷ [])
    ∷ valued 2 (minus 2000 ∷ minus 1999 ∷ pos 15000 ∷ pos 15001 ∷ [])
    ∷ valued 3 (pos 99 ∷ pos 100 ∷ pos 1000 ∷ pos 1001 ∷ [])
    ∷ valued 4 (pos 39 ∷ pos 40 ∷ pos 60000 ∷ pos 60001 ∷ [])
    ∷ valued 5 (pos 0 ∷ pos 1 ∷ pos 16 ∷ pos 17 ∷ [])
    ∷ valued 6 (minus 4001 ∷ minus 4000 ∷ pos 15000 ∷ pos 15001 ∷ [])
    ∷ valued 7 (minus 1 ∷ pos 0 ∷ pos 3 ∷ pos 4 ∷ [])
    ∷ valued 8 (minus 1 ∷ pos 0 ∷ pos 7 ∷ pos 8 ∷ [])
    ∷ map (λ (id : ℕ). valued id (minus 501 ∷ minus 500 ∷ pos 500 ∷ pos 501 ∷ [])) (9 ∷ 10 ∷ 11 ∷ 12 ∷ []))

-- ---- the rest of the state

abbrev pub ringed : Store → ℕ → ℕ → Pod → Pod
ringed s oldest waiting = with_ring s (record { oldest = oldest; waiting = waiting })

-- mode, milliseconds, priority limit and remaining, memory limit and remaining, poll
abbrev pub fielded : ℕ → ℕ → ℕ → ℕ → ℕ → ℕ → ℕ → Pod → Pod
fielded mode ms pl pr ml mr poll =
    with_fields (record { mode = mode; flags = 0; seconds = 0; milliseconds = ms; prioritylimit = pl; priorityremaining = pr; memorylimit = ml; memoryremaining = mr; poll = poll })

abbrev pub gathering : ℕ → Pod → Pod
gathering n p = with_pipe (record { input = record { bytes = replicate 8 0; gathered = n; timeouts = 15 }; output = p.pipe.output }) p

abbrev pub placed : ℕ → ℕ → ℕ → Pod → Pod
placed a b c = with_words (with_places (record { five = a; six = b; seven = c }) start_words)

abbrev pub moving : Transfer → Pod → Pod
moving t = with_words (with_transfer t start_words)

-- within every bound
abbrev pub kept : List (Pod → Pod)
kept =
    ringed Priority 15 16
    ∷ ringed Ordinary 127 128
    ∷ fielded 3 999 5 5 7 7 60000
    ∷ fielded 0 0 0 0 0 0 1
    ∷ gathering 7
    ∷ outward 8 15
    ∷ placed 64 128 64
    ∷ moving (Load (header Five 4) 3)
    ∷ moving (Load (header Five 64) 63)
    ∷ moving (Read (header Five 4) 3 63)
    ∷ moving (Read (header Six 64) 63 67)
    ∷ moving (Read (header Seven 64) 63 3)
    ∷ []

-- past one bound each
abbrev pub one_past : List (Pod → Pod)
one_past =
    -- "place of the oldest block under its capacity, waiting at most its capacity"
    ringed Priority 0 17
    ∷ ringed Priority 16 0
    ∷ ringed Ordinary 0 129
    ∷ ringed Ordinary 128 0
    -- "mode 0 to 3; poll 1 to 60,000; milliseconds 0 to 999; each remaining at most its limit"
    ∷ fielded 4 999 5 5 7 7 60000
    ∷ fielded 3 1000 5 5 7 7 60000
    ∷ fielded 3 999 5 6 7 7 60000
    ∷ fielded 3 999 5 5 7 8 60000
    ∷ fielded 3 999 5 5 7 7 60001
    ∷ fielded 0 0 0 0 0 0 0
    -- "0 to 7 bytes gathered"; "each read place at most its table's size"
    ∷ gathering 8
    ∷ placed 65 128 64
    ∷ placed 64 129 64
    ∷ placed 64 128 65
    -- request No. 3, "0 to 8 bytes in hand, and output timeouts 0 to 15"
    ∷ outward 9 15
    ∷ outward 8 16
    -- "an open transfer 0 to N-1 words along, with N as its command allows, and an open read within its table"
    ∷ moving (Load (header Five 4) 4)
    ∷ moving (Load (header Five 3) 0)
    ∷ moving (Load (header Five 65) 0)
    ∷ moving (Read (header Five 4) 4 0)
    ∷ moving (Read (header Five 3) 0 0)
    ∷ moving (Read (header Six 65) 0 0)
    ∷ moving (Read (header Five 4) 0 64)
    ∷ moving (Read (header Six 64) 0 68)
    ∷ moving (Read (header Seven 64) 0 4)
    ∷ []

-- "While not initialised, no exchange and no transfer is open."
abbrev pub wakeful : List (Pod → Pod)
wakeful =
    with_exchange exchange.Status
    ∷ with_exchange exchange.Read
    ∷ with_exchange (exchange.Receive Priority)
    ∷ with_exchange (exchange.Receive Ordinary)
    ∷ moving Address
    ∷ moving (Load (header Five 4) 0)
    ∷ moving (Read (header Five 4) 0 0)
    ∷ []

-- ---- the sizes

-- a fresh pod that is lent so many bytes and words
abbrev pub lending : ℕ → ℕ → ℕ → ℕ → ℕ → World
lending a b c d e =
    world fresh_pod (record { priority = replicate a 0; ordinary = replicate b 0; tables = three (replicate c 0) (replicate d 0) (replicate e 0); load = replicate 64 0 })

-- the table
abbrev pub bounds : List ComputedLine
bounds =
    map (λ (f : Pod → Pod). line (refusal_in (bent f) (lone deadline)) []) (kept ++ wakeful)
    ++ map (λ (f : Pod → Pod). line (refusal_in (bent f) (lone deadline)) (3 ∷ [])) one_past
    ++ map (λ (f : Pod → Pod). line (refusal_in (asleep f) (lone deadline)) (3 ∷ [])) wakeful
    -- 2: "a lent store or table is not its exact size"
    ++ (line (refusal_in (lending 4096 32768 64 128 64) (packet [] (replicate 260 0))) []
    ∷ map (λ (w : World). line (refusal_in w (packet [] (replicate 260 0))) (2 ∷ []))
    (lending 4095 32768 64 128 64
    ∷ lending 4097 32768 64 128 64
    ∷ lending 4096 32767 64 128 64
    ∷ lending 4096 32769 64 128 64
    ∷ lending 4096 32768 63 128 64
    ∷ lending 4096 32768 65 128 64
    ∷ lending 4096 32768 64 127 64
    ∷ lending 4096 32768 64 129 64
    ∷ lending 4096 32768 64 128 63
    ∷ lending 4096 32768 64 128 65
    ∷ []))
    -- 5: the last sample alone over 1,023
    ++ (line (refusal_in just_powered (samples 0 (replicate 127 0 ++ (1024 ∷ [])))) (5 ∷ []) ∷ [])

pub record Bounds : Type 0 where
  pub starts : Starts
  pub values : AsExpected values_bounded
  pub rest : AsExpected bounds
