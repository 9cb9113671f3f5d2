-- Checks 2 to 9 and the acknowledgement form, packet by packet, by computation: each with its whole answer.
-- Assumes nothing.
use Rattle.std.specs.Prelude.{ℕ, suc, ◌≡◌, List, [], ◌∷◌, ◌++◌, map, replicate}
use Rattle.rows.specs.Rows.{gave}
use Rattle.blocks.specs.declared.Store.TheVariants.{Priority, Ordinary}
use Rattle.packets.specs.declared.Fields.{Fields}
use Rattle.rules.specs.declared.Exchange.{Exchange}
use Rattle.rules.specs.declared.Exchange.TheVariants.{Closed}
use Rattle.rules.specs.declared.Pod.{Pod}
use Rattle.rules.specs.State.{with_exchange, with_ring, with_fields, with_remaining, fresh_pod}
use Rattle.rules.specs.Obey.{initialised_pod}
use Rattle.rules.specs.Refusals.{done}
use Rattle.rules.specs.Families.{status, byte, timeout, packet_out, taken, deadline, pipe}
use Rattle.rules.specs.World.{World, world, Call, power, packet, put, word, lone, samples, told, next, final, tells}
use Rattle.rules.specs.Demands.{blank}
use Rattle.rules.specs.Kept.{fields_listed}
use Rattle.examples.specs.Shown.{just_initialised, ComputedLine, line, AsExpected}
use Rattle.examples.specs.Computed.{sent_after, bytes_in, TalkTurn, asks, brings, dusty}

-- a world tells what each turn expects
abbrev pub Talks : World → List TalkTurn → Type 0
Talks w ts = tells w (map (λ (t : TalkTurn). t.call) ts) ≡ map (λ (t : TalkTurn). t.told) ts

-- success of an Initialise, an Update, a write
abbrev pub success : ℕ → ℕ → ℕ → List ℕ
success code high low = code ∷ 0x01 ∷ 0x7E ∷ high ∷ low ∷ []

-- an error answer
abbrev pub fails : ℕ → ℕ → ℕ → ℕ → List ℕ
fails first n high low = first ∷ 0x09 ∷ n ∷ high ∷ low ∷ []

-- an Initialise, and its success
abbrev pub wakes : TalkTurn
wakes =
    asks
    (0x90 ∷ 0x01 ∷ 0x01 ∷ 0x12 ∷ 0x34 ∷ 0x00 ∷ 0x00 ∷ 0x14 ∷ 0xFA ∷ 0x00 ∷ 0x04 ∷ 0x00 ∷ 0x02 ∷ 0x00 ∷ 0x00 ∷ 0x00 ∷ 0x09 ∷ 0x00 ∷ 0x00 ∷ 0x00 ∷ 0x01 ∷ 0x03 ∷ 0xE8 ∷ 0x31 ∷ 0x04 ∷ [])
    (success 0x90 0x18 0xCD)

-- from power on, asleep: what checks 2 to 6 find is told before check 7
abbrev pub checks : List TalkTurn
checks =
    record { call = power; told = told (gave done) [] }
    -- 2: the CRC's high byte wrong, its low byte wrong; 6: one byte too long
    ∷ asks (0x91 ∷ 0x01 ∷ 0x27 ∷ 0xF4 ∷ []) (fails 0x91 0x01 0x29 0x2C)
    ∷ asks (0x91 ∷ 0x01 ∷ 0x26 ∷ 0xF5 ∷ []) (fails 0x91 0x01 0x29 0x2C)
    ∷ asks (0x91 ∷ 0x01 ∷ 0x00 ∷ 0xB0 ∷ 0xA4 ∷ []) (fails 0x91 0x01 0x29 0x2C)
    -- 5: the second byte is not 01, also where the length is wrong too
    ∷ asks (0x91 ∷ 0x02 ∷ 0x16 ∷ 0x97 ∷ []) (fails 0x91 0x3C 0xCE 0xD2)
    ∷ asks (0x91 ∷ 0x02 ∷ 0x00 ∷ 0xE5 ∷ 0xF7 ∷ []) (fails 0x91 0x3C 0xCE 0xD2)
    -- 7 comes before 8: a Status, a read of id 0
    ∷ asks (0x91 ∷ 0x01 ∷ 0x26 ∷ 0xF4 ∷ []) (fails 0x91 0x38 0x8E 0x56)
    ∷ asks (0x94 ∷ 0x01 ∷ 0x00 ∷ 0x5B ∷ 0x54 ∷ []) (fails 0x94 0x38 0x65 0xA6)
    -- 3: "first byte 0x90 to 0x9F": both ends, and 97, which is no code; 6 bytes are none, and A0 and 8F are no codes
    ∷ asks (0x90 ∷ 0x01 ∷ 0x7E ∷ 0x18 ∷ 0xCD ∷ []) []
    ∷ asks (0x9F ∷ 0x01 ∷ 0x7E ∷ 0x34 ∷ 0xFC ∷ []) []
    ∷ asks (0x97 ∷ 0x09 ∷ 0x00 ∷ 0x8B ∷ 0xAD ∷ []) []
    ∷ asks (0x91 ∷ 0x01 ∷ 0x7E ∷ 0x00 ∷ 0x28 ∷ 0x8D ∷ []) (fails 0x91 0x01 0x29 0x2C)
    ∷ asks (0xA0 ∷ 0x01 ∷ 0x7E ∷ 0xDD ∷ 0x68 ∷ []) (fails 0xA0 0x02 0xEB 0xDA)
    ∷ asks (0x8F ∷ 0x01 ∷ 0x7E ∷ 0x77 ∷ 0x9F ∷ []) (fails 0x8F 0x02 0x41 0x2D)
    ∷ asks (0x97 ∷ 0x01 ∷ 0x8C ∷ 0x52 ∷ []) (fails 0x97 0x02 0xAB 0xEF)
    ∷ asks (0x97 ∷ 0x01 ∷ 0x7E ∷ 0x9D ∷ 0x5D ∷ []) []
    -- nor are 90 01 with another third byte, with one byte more, or with none: an Initialise, and too short
    ∷ asks (0x90 ∷ 0x01 ∷ 0x00 ∷ 0x87 ∷ 0x94 ∷ []) (fails 0x90 0x01 0x1E 0x1C)
    ∷ asks (0x90 ∷ 0x01 ∷ 0x7E ∷ 0x00 ∷ 0x5E ∷ 0x39 ∷ []) (fails 0x90 0x01 0x1E 0x1C)
    ∷ asks (0x90 ∷ 0x01 ∷ 0x15 ∷ 0xC5 ∷ []) (fails 0x90 0x01 0x1E 0x1C)
    -- nor 90 09 with none, or as long as an Initialise
    ∷ asks (0x90 ∷ 0x09 ∷ 0x94 ∷ 0xCD ∷ []) (fails 0x90 0x3C 0xF9 0xE2)
    ∷ asks (0x90 ∷ 0x09 ∷ replicate 21 0 ++ (0x56 ∷ 0xCA ∷ [])) (fails 0x90 0x3C 0xF9 0xE2)
    -- awake, a block is sent; the 09 form gets no answer and keeps it, and of 4 bytes it is no acknowledgement
    ∷ wakes
    ∷ brings Priority 0x11
    ∷ asks (0x95 ∷ 0x01 ∷ 0xEA ∷ 0x30 ∷ []) (0x95 ∷ 0x01 ∷ replicate 256 0x11 ++ (0xE0 ∷ 0xFC ∷ []))
    ∷ asks (0x95 ∷ 0x09 ∷ 0x3A ∷ 0x72 ∷ 0xD4 ∷ []) []
    ∷ asks (0x95 ∷ 0x09 ∷ 0x6B ∷ 0x38 ∷ []) (fails 0x95 0x3C 0x12 0x12)
    ∷ asks (0x95 ∷ 0x01 ∷ 0xEA ∷ 0x30 ∷ []) (0x95 ∷ 0x01 ∷ replicate 256 0x11 ++ (0xE0 ∷ 0xFC ∷ []))
    ∷ []

-- a pod just initialised: nothing waits; parameters of ids 0 and 13; 1 at 2's value and one below; 4 at its most and one above, and
-- read; then a Status, which asks for 2, 3, 6 and 7
abbrev pub values : List TalkTurn
values =
    asks (0x95 ∷ 0x01 ∷ 0xEA ∷ 0x30 ∷ []) (fails 0x95 0x3A 0x72 0xD4)
    ∷ asks (0x96 ∷ 0x01 ∷ 0xBF ∷ 0x63 ∷ []) (fails 0x96 0x3A 0x2B 0x84)
    ∷ asks (0x94 ∷ 0x01 ∷ 0x00 ∷ 0x5B ∷ 0x54 ∷ []) (fails 0x94 0x39 0x75 0x87)
    ∷ asks (0x94 ∷ 0x01 ∷ 0x0D ∷ 0x8A ∷ 0xF9 ∷ []) (fails 0x94 0x39 0x75 0x87)
    ∷ asks (0x93 ∷ 0x01 ∷ 0x01 ∷ 0x00 ∷ 0x00 ∷ 0x2E ∷ 0xE0 ∷ 0x82 ∷ 0xF8 ∷ []) (fails 0x93 0x39 0xF0 0x17)
    ∷ asks (0x93 ∷ 0x01 ∷ 0x01 ∷ 0x00 ∷ 0x00 ∷ 0x2E ∷ 0xDF ∷ 0x45 ∷ 0x44 ∷ []) (success 0x93 0x41 0x9D)
    ∷ asks (0x93 ∷ 0x01 ∷ 0x04 ∷ 0x00 ∷ 0x00 ∷ 0xEA ∷ 0x60 ∷ 0xEA ∷ 0xB7 ∷ []) (success 0x93 0x41 0x9D)
    ∷ asks (0x93 ∷ 0x01 ∷ 0x04 ∷ 0x00 ∷ 0x00 ∷ 0xEA ∷ 0x61 ∷ 0xFA ∷ 0x96 ∷ []) (fails 0x93 0x39 0xF0 0x17)
    ∷ asks (0x94 ∷ 0x01 ∷ 0x04 ∷ 0x1B ∷ 0xD0 ∷ []) (0x94 ∷ 0x01 ∷ 0x04 ∷ 0x00 ∷ 0x00 ∷ 0xEA ∷ 0x60 ∷ 0xF3 ∷ 0xF3 ∷ [])
    ∷ asks (0x91 ∷ 0x01 ∷ 0x26 ∷ 0xF4 ∷ []) (0x91 ∷ 0x01 ∷ replicate 10 0 ++ (0x02 ∷ 0x03 ∷ 0x06 ∷ 0x07 ∷ 0x00 ∷ 0x00 ∷ 0x00 ∷ 0x00 ∷ 0xA1 ∷ 0xAD ∷ []))
    ∷ []

-- an Update of every field, and its success
abbrev pub update : TalkTurn
update =
    asks
    (0x92 ∷ 0x01 ∷ 0x02 ∷ 0xAB ∷ 0xCD ∷ 0x00 ∷ 0x00 ∷ 0x1F ∷ 0xE7 ∷ 0x00 ∷ 0x03 ∷ 0x00 ∷ 0x01 ∷ 0x00 ∷ 0x00 ∷ 0x00 ∷ 0x05 ∷ 0x00 ∷ 0x00 ∷ 0x00 ∷ 0x04 ∷ 0xEA ∷ 0x60 ∷ 0x93 ∷ 0xDC ∷ [])
    (success 0x92 0x76 0xAD)

-- the same with mode 4
abbrev pub unfit : TalkTurn
unfit =
    asks
    (0x92 ∷ 0x01 ∷ 0x04 ∷ 0xAB ∷ 0xCD ∷ 0x00 ∷ 0x00 ∷ 0x1F ∷ 0xE7 ∷ 0x00 ∷ 0x03 ∷ 0x00 ∷ 0x01 ∷ 0x00 ∷ 0x00 ∷ 0x00 ∷ 0x05 ∷ 0x00 ∷ 0x00 ∷ 0x00 ∷ 0x04 ∷ 0xEA ∷ 0x60 ∷ 0x4F ∷ 0xAA ∷ [])
    (fails 0x92 0x39 0xC7 0x27)

-- mode 2, flags ABCD, 7.999 s, priority limit 3 and remaining 1, memory limit 5 and remaining 4, poll 60,000
abbrev pub updated : Fields
updated =
    record { mode = 2; flags = 0xABCD; seconds = 7; milliseconds = 999; prioritylimit = 3; priorityremaining = 1; memorylimit = 5; memoryremaining = 4; poll = 60000 }

-- "Update takes the fields and keeps the rest": parameters, their marks and the list of those missing, blocks
abbrev pub keeps : List TalkTurn
keeps =
    values
    ++ (brings Priority 0x11
    ∷ update
    ∷ asks (0x94 ∷ 0x01 ∷ 0x04 ∷ 0x1B ∷ 0xD0 ∷ []) (0x94 ∷ 0x01 ∷ 0x04 ∷ 0x00 ∷ 0x00 ∷ 0xEA ∷ 0x60 ∷ 0xF3 ∷ 0xF3 ∷ [])
    ∷ asks (0x91 ∷ 0x01 ∷ 0x26 ∷ 0xF4 ∷ [])
    (0x91 ∷ 0x01 ∷ 0x02 ∷ 0xAB ∷ 0xCD ∷ 0x00 ∷ 0x01 ∷ replicate 5 0 ++ (0x02 ∷ 0x03 ∷ 0x06 ∷ 0x07 ∷ 0x00 ∷ 0x00 ∷ 0x00 ∷ 0x00 ∷ 0xED ∷ 0x99 ∷ []))
    -- request No. 5: 1 written again strikes out nothing, 6 goes and 7 moves up; after a Shutdown and an Initialise all are asked again
    ∷ asks (0x93 ∷ 0x01 ∷ 0x01 ∷ 0xFF ∷ 0xFF ∷ 0xFC ∷ 0x18 ∷ 0x1B ∷ 0x6A ∷ []) (success 0x93 0x41 0x9D)
    ∷ asks (0x93 ∷ 0x01 ∷ 0x06 ∷ 0x00 ∷ 0x00 ∷ 0x07 ∷ 0xD0 ∷ 0x6F ∷ 0x01 ∷ []) (success 0x93 0x41 0x9D)
    ∷ asks (0x91 ∷ 0x01 ∷ 0x26 ∷ 0xF4 ∷ [])
    (0x91 ∷ 0x01 ∷ 0x02 ∷ 0xAB ∷ 0xCD ∷ 0x00 ∷ 0x01 ∷ replicate 5 0 ++ (0x02 ∷ 0x03 ∷ 0x07 ∷ 0x00 ∷ 0x00 ∷ 0x00 ∷ 0x00 ∷ 0x00 ∷ 0xCF ∷ 0xED ∷ []))
    ∷ asks (0x9F ∷ 0x01 ∷ 0x05 ∷ 0xFB ∷ []) (success 0x9F 0x34 0xFC)
    ∷ wakes
    ∷ asks (0x91 ∷ 0x01 ∷ 0x26 ∷ 0xF4 ∷ [])
    (0x91 ∷ 0x01 ∷ 0x01 ∷ 0x12 ∷ 0x34 ∷ replicate 7 0 ++ (0x01 ∷ 0x02 ∷ 0x03 ∷ 0x06 ∷ 0x07 ∷ 0x00 ∷ 0x00 ∷ 0x00 ∷ 0x43 ∷ 0xFC ∷ []))
    ∷ [])

-- a block of each store brought, sent and acknowledged
abbrev pub fetched : List Call
fetched =
    map (λ (t : TalkTurn). t.call)
    (update
    ∷ brings Priority 0x11
    ∷ asks (0x95 ∷ 0x01 ∷ 0xEA ∷ 0x30 ∷ []) []
    ∷ asks (0x95 ∷ 0x01 ∷ 0x7E ∷ 0xF3 ∷ 0x3D ∷ []) []
    ∷ brings Ordinary 0x44
    ∷ asks (0x96 ∷ 0x01 ∷ 0xBF ∷ 0x63 ∷ []) []
    ∷ asks (0x96 ∷ 0x01 ∷ 0x7E ∷ 0xAA ∷ 0x6D ∷ []) []
    ∷ [])

-- each pipe call, a table word, samples, a put and an empty packet
abbrev pub beside : List Call
beside =
    lone (pipe (byte 9))
    ∷ lone (pipe (packet_out (replicate 8 9)))
    ∷ lone (pipe taken)
    ∷ lone (pipe timeout)
    ∷ word status
    ∷ samples 0 (replicate 128 0)
    ∷ put Priority (replicate 256 7)
    ∷ packet [] (replicate 260 0)
    ∷ []

-- a pod: one block and so many more wait in each store, the oldest at its end; one and so many more may still be sent
pub record Stock : Type 0 where
  pub pod : Pod
  pub waiting : ℕ
  pub remaining : ℕ

-- .. with an exchange open
abbrev pub stocked : Exchange → Stock → Pod
stocked x g =
    with_exchange x
    (with_ring Priority (record { oldest = 15; waiting = suc g.waiting })
    (with_ring Ordinary (record { oldest = 127; waiting = suc g.waiting })
    (with_fields (with_remaining Priority (suc g.remaining) (with_remaining Ordinary (suc g.remaining) g.pod.fields)) g.pod)))

-- what is open after some calls, one block waiting in each store
abbrev pub open_then : List Call → Exchange → Exchange
open_then cs x = (final (world (stocked x (record { pod = initialised_pod updated; waiting = 0; remaining = 0 })) blank) cs).pod.exchange

-- "its remaining falls by 1", and no other field changes; an Update keeps gathered bytes
abbrev pub exchanges : List ComputedLine
exchanges =
    line (fields_listed (final just_initialised fetched).pod.fields) (2 ∷ 0xABCD ∷ 7 ∷ 999 ∷ 3 ∷ 0 ∷ 5 ∷ 3 ∷ 60000 ∷ [])
    ∷ line (sent_after (bytes_in (1 ∷ 2 ∷ []) ++ (update.call ∷ [])) timeout) (1 ∷ 2 ∷ [])
    ∷ []

pub record Packets : Type 0 where
  pub asleep : Talks (world fresh_pod dusty) checks
  pub parameters : Talks just_initialised keeps
  pub updates : Talks just_initialised (unfit ∷ update ∷ [])
  pub fields : (next just_initialised update.call).pod.fields ≡ updated
  pub exchanges : AsExpected exchanges
  -- "closes an open exchange .. So does the deadline call", whichever is open, and none of those
  pub closes : (x : Exchange) → open_then (lone deadline ∷ []) x ≡ Closed
  pub stays : (x : Exchange) → open_then beside x ≡ x
