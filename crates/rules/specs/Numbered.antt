-- "Refused calls": document 01's table and request No. 3's two rows, each over every call, apart from the calls' own lists. "Each row
-- applies only to calls that are lent the thing."
-- Assumes nothing.
use Rattle.std.specs.Prelude.{Bool, true, false, not, ◌&&◌, ◌||◌, List, [], ◌∷◌, ltb, leb, eqb, length}
use Rattle.rows.specs.Rows.{Row, row}
use Rattle.blocks.specs.declared.Store.TheVariants.{Priority, Ordinary}
use Rattle.blocks.specs.Stores.{capacity_of, store_sized}
use Rattle.tables.specs.Tables.{tables_sized}
use Rattle.pipe.specs.declared.Pipe.{Pipe}
use Rattle.frames.specs.Samples.{bounded_of}
use Rattle.rules.specs.declared.Pod.{Pod}
use Rattle.rules.specs.State.{Lent, store_in, ring_of, sound_pod}
use Rattle.rules.specs.Families.{byte, timeout, packet_out, taken, LoneCall, deadline, pipe}
use Rattle.rules.specs.Traits.{traits}
use Rattle.rules.specs.World.{World, Call, power, packet, put, word, lone, samples}

-- 1: "packet call: answer room under 260 bytes"
abbrev pub room_short : Call → Bool
room_short power = false
room_short (packet b room) = ltb (length room) 260
room_short (put s b) = false
room_short (word c) = false
room_short (lone c) = false
room_short (samples k xs) = false

-- 2: "a lent store or table is not its exact size": a packet is lent all, a put its store, power and the words the tables, but
-- the status word, as the others, nothing
abbrev pub size_wrong : Call → Lent → Bool
size_wrong power l = not (tables_sized l.tables)
size_wrong (packet b room) l = not (store_sized Priority l.priority && (store_sized Ordinary l.ordinary && tables_sized l.tables))
size_wrong (put s b) l = not (store_sized s (store_in s l))
size_wrong (word c) l = (traits c).lent && not (tables_sized l.tables)
size_wrong (lone c) l = false
size_wrong (samples k xs) l = false

-- 3: "the state handed in breaks a bound below": power alone is handed none
abbrev pub state_broken : Call → Pod → Bool
state_broken power p = false
state_broken (packet b room) p = not (sound_pod p)
state_broken (put s b) p = not (sound_pod p)
state_broken (word c) p = not (sound_pod p)
state_broken (lone c) p = not (sound_pod p)
state_broken (samples k xs) p = not (sound_pod p)

-- 4: "a block is not 256 bytes, or a sample set not 128 numbers"
abbrev pub count_wrong : Call → Bool
count_wrong power = false
count_wrong (packet b room) = false
count_wrong (put s b) = not (eqb (length b) 256)
count_wrong (word c) = false
count_wrong (lone c) = false
count_wrong (samples k xs) = not (eqb (length xs) 128)

-- 5: "a sample is over 1,023, or the self-check number over 31"
abbrev pub number_over : Call → Bool
number_over power = false
number_over (packet b room) = false
number_over (put s b) = false
number_over (word c) = false
number_over (lone c) = false
number_over (samples k xs) = not (bounded_of xs) || not (leb k 31)

-- 6: "block or pipe call while the pod is not initialised"
abbrev pub is_pipe : LoneCall → Bool
is_pipe deadline = false
is_pipe (pipe c) = true

abbrev pub pod_asleep : Call → Pod → Bool
pod_asleep power p = false
pod_asleep (packet b room) p = false
pod_asleep (put s b) p = not p.initialised
pod_asleep (word c) p = false
pod_asleep (lone c) p = is_pipe c && not p.initialised
pod_asleep (samples k xs) p = false

-- 7: "that store is full"
abbrev pub store_full : Call → Pod → Bool
store_full power p = false
store_full (packet b room) p = false
store_full (put s b) p = leb (capacity_of s) (ring_of s p).waiting
store_full (word c) p = false
store_full (lone c) p = false
store_full (samples k xs) p = false

-- 21: request No. 3, "a packet while one is being handed over"
abbrev pub hands_over : LoneCall → Pipe → Bool
hands_over deadline i = false
hands_over (pipe (byte b)) i = false
hands_over (pipe timeout) i = false
hands_over (pipe (packet_out b)) i = ltb 0 i.output.hand
hands_over (pipe taken) i = false

abbrev pub hand_busy : Call → Pod → Bool
hand_busy power p = false
hand_busy (packet b room) p = false
hand_busy (put s b) p = false
hand_busy (word c) p = false
hand_busy (lone c) p = hands_over c p.pipe
hand_busy (samples k xs) p = false

-- 22: "one not of 8 bytes"
abbrev pub not_eight : LoneCall → Bool
not_eight deadline = false
not_eight (pipe (byte b)) = false
not_eight (pipe timeout) = false
not_eight (pipe (packet_out b)) = not (eqb (length b) 8)
not_eight (pipe taken) = false

abbrev pub out_wrong : Call → Bool
out_wrong power = false
out_wrong (packet b room) = false
out_wrong (put s b) = false
out_wrong (word c) = false
out_wrong (lone c) = not_eight c
out_wrong (samples k xs) = false

-- the rows in the order in which they are judged: document 01's rise, and of request No. 3's "22 before 6, 21 last"; no other number
-- has a row
unfoldable pub rows_in_order : World → Call → List Row
rows_in_order w c =
    row 1 (room_short c)
    ∷ row 2 (size_wrong c w.lent)
    ∷ row 3 (state_broken c w.pod)
    ∷ row 4 (count_wrong c)
    ∷ row 5 (number_over c)
    ∷ row 22 (out_wrong c)
    ∷ row 6 (pod_asleep c w.pod)
    ∷ row 7 (store_full c w.pod)
    ∷ row 21 (hand_busy c w.pod)
    ∷ []

-- the calls whose rows rise: all but the packet out
abbrev pub lone_rises : LoneCall → Bool
lone_rises deadline = true
lone_rises (pipe (byte b)) = true
lone_rises (pipe timeout) = true
lone_rises (pipe (packet_out b)) = false
lone_rises (pipe taken) = true

abbrev pub rows_rise : Call → Bool
rows_rise power = true
rows_rise (packet b room) = true
rows_rise (put s b) = true
rows_rise (word c) = true
rows_rise (lone c) = lone_rises c
rows_rise (samples k xs) = true
