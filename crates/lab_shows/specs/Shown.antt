-- "`V` shows the state": its numbers in their order, and the CRCs of the memory.
-- Assumes nothing.
use Rattle.std.specs.Prelude.{ℕ, Bool, true, false, List, [], ◌∷◌, ◌++◌, map, ℤ, pos, negsuc, take, Option, Some, None}
use Rattle.crc.specs.Crc.{crc_of}
use Rattle.hexes.specs.Digits.{word_digits}
use Rattle.numbers.specs.Numbers.{high_first}
use Rattle.items.specs.Characters.{newline, space}
use Rattle.orders.specs.Command.{table_number}
use Rattle.packets.specs.declared.Fields.{Fields}
use Rattle.tables.specs.declared.Transfer.{Transfer}
use Rattle.tables.specs.declared.Transfer.TheVariants.{Idle, Address, Load, Read}
use Rattle.tables.specs.declared.Places.{Places}
use Rattle.tables.specs.Tables.{three}
use Rattle.pipe.specs.Output.{held_out}
use Rattle.rules.specs.declared.Pod.{Pod}
use Rattle.rules.specs.State.{Lent}
use Rattle.rules.specs.Obey.{exchange_code}
use Rattle.decimals.specs.Printing.{spelled, naturals}
use Rattle.lab_shows.specs.declared.Lent.{Lent as Parts}

-- what is lent, of its parts
abbrev pub lent_of : Parts → Lent
lent_of p = record { priority = p.priority.now; ordinary = p.ordinary.now; tables = three p.five.now p.six.now p.seven.now; load = p.load.now }

-- `V`
abbrev pub letter_v : ℕ
letter_v = 86

abbrev pub bit_of : Bool → ℕ
bit_of true = 1
bit_of false = 0

-- "mode, flags, seconds, milliseconds, priority limit and remaining, memory limit and remaining, poll"
abbrev pub field_numbers : Fields → List ℕ
field_numbers f =
    f.mode ∷ f.flags ∷ f.seconds ∷ f.milliseconds ∷ f.prioritylimit ∷ f.priorityremaining ∷ f.memorylimit ∷ f.memoryremaining ∷ f.poll ∷ []

-- "the transfer as five numbers as above (0 0 0 0 0 for none)": command reading N along start
abbrev pub transfer_numbers : Transfer → List ℕ
transfer_numbers Idle = 0 ∷ 0 ∷ 0 ∷ 0 ∷ 0 ∷ []
transfer_numbers Address = 1 ∷ 0 ∷ 1 ∷ 0 ∷ 0 ∷ []
transfer_numbers (Load h k) = table_number h.table ∷ 0 ∷ h.n ∷ k ∷ 0 ∷ []
transfer_numbers (Read h k start) = table_number h.table ∷ 1 ∷ h.n ∷ k ∷ start ∷ []

abbrev pub place_numbers : Places → List ℕ
place_numbers p = p.five ∷ p.six ∷ p.seven ∷ []

-- "the address or -1"
abbrev pub address_number : Option ℕ → ℤ
address_number None = negsuc 0
address_number (Some a) = pos a

-- "initialised" and the fields; "the twelve values; the twelve marks"; the exchange, message error, the transfer and the three places; the
-- address; "oldest and waiting of both stores; gathered; timeouts"
abbrev pub first_numbers : Pod → List ℕ
first_numbers p = bit_of p.initialised ∷ field_numbers p.fields

abbrev pub port_numbers : Pod → List ℕ
port_numbers p =
    exchange_code p.exchange ∷ bit_of p.words.error ∷ (transfer_numbers p.words.transfer ++ place_numbers p.words.places)

abbrev pub last_numbers : Pod → List ℕ
last_numbers p =
    p.priority.oldest ∷ p.priority.waiting ∷ p.ordinary.oldest ∷ p.ordinary.waiting ∷ p.pipe.input.gathered ∷ p.pipe.input.timeouts ∷ []

unfoldable pub front_numbers : Pod → List ℤ
front_numbers p = naturals (first_numbers p) ++ (p.params.values ++ naturals (map bit_of p.params.written))

unfoldable pub back_numbers : Pod → List ℤ
back_numbers p = naturals (port_numbers p) ++ (address_number p.words.given ∷ naturals (last_numbers p))

-- "words high byte first"
unfoldable pub word_bytes : List ℕ → List ℕ
word_bytes [] = []
word_bytes (w ∷ ws) = high_first 2 w ++ word_bytes ws

-- "the words of the open load so far": none where no load is open
abbrev pub along : Transfer → ℕ
along Idle = 0
along Address = 0
along (Load h k) = k
along (Read h k start) = 0

-- "the CRC of the bytes gathered, of the words of the open load so far, of the priority store, the ordinary store, tables 5, 6 and 7"
unfoldable pub shown_checks : Pod → Lent → List ℕ
shown_checks p l =
    crc_of (take p.pipe.input.gathered p.pipe.input.bytes)
    ∷ crc_of (word_bytes (take (along p.words.transfer) l.load))
    ∷ crc_of l.priority
    ∷ crc_of l.ordinary
    ∷ crc_of (word_bytes l.tables.five)
    ∷ crc_of (word_bytes l.tables.six)
    ∷ crc_of (word_bytes l.tables.seven)
    ∷ []

-- "four hex digits each"
unfoldable pub spelled_words : List ℕ → List ℕ
spelled_words [] = []
spelled_words (w ∷ ws) = space ∷ (word_digits w ++ spelled_words ws)

-- behind the rest, of request No. 3's half: how many bytes are in hand, output timeouts, and the CRC of the bytes in hand, of 8 at most
abbrev pub out_numbers : Pod → List ℕ
out_numbers p = p.pipe.output.hand ∷ p.pipe.output.timeouts ∷ []

unfoldable pub shown_output : Pod → List ℕ
shown_output p = spelled (naturals (out_numbers p)) ++ spelled_words (crc_of (held_out p.pipe.output) ∷ [])

-- behind these, of request No. 5: the eight places of the kept list; and the line's end
unfoldable pub shown_list : Pod → List ℕ
shown_list p = spelled (naturals p.params.missing) ++ (newline ∷ [])

-- "`V` and these, each after one space"
unfoldable pub shown_text : Pod → Lent → List ℕ
shown_text p l =
    letter_v ∷ (spelled (front_numbers p ++ back_numbers p) ++ (spelled_words (shown_checks p l) ++ (shown_output p ++ shown_list p)))
