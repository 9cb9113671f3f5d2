-- "Marked P are proved together": P1 to P12 as one table of what is got and what is expected.
-- Assumes nothing.
use Rattle.std.specs.Prelude.{ℕ, zero, suc, ◌/◌, ◌≡◌, get_or, replicate}
use mathlib.Core.List.{List, [], ◌∷◌, ◌++◌, map, flatten}
use Rattle.rows.specs.Rows.{Said, refused, gave}
use Rattle.crc.specs.Crc.{crc_of}
use Rattle.packets.specs.declared.Command.TheVariants.{Initialise, Read as ReadValue}
use Rattle.packets.specs.Answers.{with_crc, command_bytes}
use Rattle.tables.specs.declared.Transfer.{Transfer}
use Rattle.tables.specs.declared.Transfer.TheVariants.{Idle, Address, Load, Read}
use Rattle.orders.specs.Command.{table_number}
use Rattle.tables.specs.Port.{data_count}
use Rattle.rules.specs.State.{fresh_fields}
use Rattle.rules.specs.Obey.{exchange_code}
use Rattle.rules.specs.Refusals.{Giving, done, bytes, reads}
use Rattle.rules.specs.Families.{command, data_in, data_out, status, byte, timeout, pipe}
use Rattle.rules.specs.World.{World, Call, packet, word, lone, samples, Told, step, next, final, tells}
use Rattle.rules.specs.Demands.{just_powered}

-- "a pod just initialised with flags 0", from power on
unfoldable pub just_initialised : World
just_initialised = next just_powered (packet (command_bytes (Initialise fresh_fields)) (replicate 260 0))

-- the number that a call gives: the length of an answer, a word
abbrev pub number_in : Said Giving → List ℕ
number_in (refused n) = []
number_in (gave done) = []
number_in (gave (bytes n)) = n ∷ []
number_in (gave (reads x)) = x ∷ []

-- the words that some calls on such a pod give
abbrev pub words_out : List Call → List ℕ
words_out cs = flatten (map (λ (t : Told). number_in t.said) (tells just_initialised cs))

-- the status word after them
abbrev pub status_after : List Call → List ℕ
status_after cs = number_in (step (final just_initialised cs) (word status)).told.said

-- an open transfer: 0 for a load or 1 for a read, the table, the count of data words, how many words along; 2 for an address
abbrev pub transfer_shown : Transfer → List ℕ
transfer_shown Idle = []
transfer_shown Address = 2 ∷ []
transfer_shown (Load h k) = 0 ∷ table_number h.table ∷ data_count h ∷ k ∷ []
transfer_shown (Read h k at) = 1 ∷ table_number h.table ∷ data_count h ∷ k ∷ []

abbrev pub transfer_after : List Call → List ℕ
transfer_after cs = transfer_shown (final just_initialised cs).pod.words.transfer

abbrev pub five_after : List Call → List ℕ
five_after cs = (final just_initialised cs).lent.tables.five

-- a command word, the words of a load, so many words read
abbrev pub order : ℕ → List Call
order x = word (command x) ∷ []

abbrev pub loading : List ℕ → List Call
loading xs = map (λ (x : ℕ). word (data_in x)) xs

abbrev pub reading : ℕ → List Call
reading n = replicate n (word data_out)

-- a load of four words to table 5, a read of four from it
abbrev pub load : ℕ → ℕ → ℕ → ℕ → List Call
load a b c d = order 0x0A04 ++ loading (a ∷ b ∷ c ∷ d ∷ [])

abbrev pub read : List Call
read = order 0xCA04 ++ reading 4

-- what a packet is told after some calls, its room being full of AA: the length of the answer, and the room
abbrev pub answer_after : List Call → List ℕ → List ℕ
answer_after cs b =
    number_in (step (final just_initialised cs) (packet b (replicate 260 0xAA))).told.said
    ++ (step (final just_initialised cs) (packet b (replicate 260 0xAA))).told.bytes

-- the code of the exchange that is then open, 0 for none
abbrev pub open_after : List Call → List ℕ
open_after cs = exchange_code (final just_initialised cs).pod.exchange ∷ []

-- a read of parameter 1, and the packet of P10
abbrev pub asks_value : List Call
asks_value = packet (command_bytes (ReadValue 1)) (replicate 260 0) ∷ []

abbrev pub acknowledgement : List ℕ
acknowledgement = with_crc (0x94 ∷ 0x01 ∷ 0x7E ∷ [])

-- the two frames after some calls, of samples all 1,023
abbrev pub frames_after : List Call → List ℕ
frames_after cs = (step (final just_initialised cs) (samples 31 (replicate 128 1023))).told.bytes

-- a byte and a timeout, n times
abbrev pub timeouts : ℕ → List Call
timeouts zero = []
timeouts (suc n) = lone (pipe (byte 0)) ∷ lone (pipe timeout) ∷ timeouts n

-- input timeouts in 0.7-4
abbrev pub count_after : ℕ → ℕ
count_after n = get_or (frames_after (timeouts n)) 0 0 / 16

pub record ComputedLine : Type 0 where
  pub got : List ℕ
  pub expected : List ℕ

abbrev pub line : List ℕ → List ℕ → ComputedLine
line g e = record { got = g; expected = e }

-- each line is as expected
abbrev pub AsExpected : List ComputedLine → Type 0
AsExpected ls = map (λ (l : ComputedLine). l.got) ls ≡ map (λ (l : ComputedLine). l.expected) ls

-- the table; x is any word
abbrev pub shown : ℕ → List ComputedLine
shown x =
    -- P1 to P3: the CRC of no bytes, of FF, of FF FF
    line (crc_of [] ∷ []) (0xFFFF ∷ [])
    ∷ line (crc_of (0xFF ∷ []) ∷ []) (0xFF00 ∷ [])
    ∷ line (crc_of (0xFF ∷ 0xFF ∷ []) ∷ []) (0x0000 ∷ [])
    -- P4: 8000 is stop, "no more than closing a transfer": alone, with a load open, after a load; it keeps a given address and read
    -- places
    ∷ line (status_after (order 0x8000)) (0 ∷ [])
    ∷ line (transfer_after (order 0x0A04 ++ order 0x8000) ++ status_after (order 0x0A04 ++ order 0x8000)) (2 ∷ [])
    ∷ line (five_after (load 5 63 1 x ++ order 0x8000) ++ status_after (load 5 63 1 x ++ order 0x8000)) (replicate 63 0 ++ (x ∷ 0 ∷ []))
    ∷ line (words_out (order 0x8201 ++ loading (3 ∷ []) ++ order 0x8000 ++ read)) (5 ∷ 3 ∷ 1 ∷ 0 ∷ [])
    ∷ line (words_out (read ++ order 0x8000 ++ read)) (5 ∷ 0 ∷ 1 ∷ 0 ∷ 5 ∷ 1 ∷ 1 ∷ 0 ∷ [])
    -- P5: 0000 has even ones and sets message error
    ∷ line (status_after (order 0x0000)) (2 ∷ [])
    -- P6: 0A04 opens a load of one word to table 5; P7: CA04 reads one: the three header words and the word
    ∷ line (transfer_after (order 0x0A04)) (0 ∷ 5 ∷ 1 ∷ 0 ∷ [])
    ∷ line (transfer_after (order 0xCA04)) (1 ∷ 5 ∷ 1 ∷ 0 ∷ [])
    ∷ line (words_out read ++ status_after read) (5 ∷ 0 ∷ 1 ∷ 0 ∷ 0 ∷ [])
    ∷ line (words_out (load 5 0 1 x ++ read)) (5 ∷ 0 ∷ 1 ∷ x ∷ [])
    -- P8: load 5, 63, 1, x is taken; P9: 5, 64, 1, x is not
    ∷ line (five_after (load 5 63 1 x) ++ status_after (load 5 63 1 x)) (replicate 63 0 ++ (x ∷ 0 ∷ []))
    ∷ line (five_after (load 5 64 1 x) ++ status_after (load 5 64 1 x)) (replicate 64 0 ++ (2 ∷ []))
    -- P10: 94 01 7E with its CRC is an acknowledgement, no read: an answer of 0 bytes, the room as it came, and the exchange closed
    -- that a read opened
    ∷ line (open_after asks_value ++ answer_after asks_value acknowledgement) (0x94 ∷ 0 ∷ replicate 260 0xAA)
    ∷ line (open_after (asks_value ++ (packet acknowledgement (replicate 260 0) ∷ []))) (0 ∷ [])
    -- P11: initialised, all samples 1,023, self-check 31, nothing gathered, no timeouts
    ∷ line (frames_after [])
    (0x00 ∷ 0x00 ∷ 0xFF ∷ 0x03 ∷ 0xFF ∷ 0x07 ∷ 0xFF ∷ 0x7F ∷ 0x00 ∷ 0x00 ∷ 0xFF ∷ 0x03 ∷ 0xFF ∷ 0x03 ∷ 0xFF ∷ 0x03 ∷ [])
    -- P12: the fifteenth and sixteenth timeouts both show 15
    ∷ line (count_after 15 ∷ count_after 16 ∷ []) (15 ∷ 15 ∷ [])
    ∷ []

abbrev pub Shown : Type 0
Shown = (x : ℕ) → AsExpected (shown x)
