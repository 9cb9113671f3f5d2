-- What the owner asked for, said of the rules. Each name is a statement; Whole.antt joins them, and proofs/ has a proof of each.
-- Assumes nothing.
use Rattle.std.specs.Prelude.{ℕ, ◌+◌, ◌<◌, ◌≡◌, ◌↔◌, true, false, ◌&&◌, cond, List, [], ◌∷◌, ◌++◌, get_or, replicate, eqb, None}
use Rattle.rows.specs.Rows.{First, refused, gave, held}
use Rattle.blocks.specs.declared.Store.{Store}
use Rattle.blocks.specs.Stores.{capacity_of, blocks_in}
use Rattle.packets.specs.declared.Fields.{Fields}
use Rattle.packets.specs.declared.Command.{Command}
use Rattle.packets.specs.declared.Command.TheVariants as asked
use Rattle.packets.specs.declared.Parsed.TheVariants.{Asked}
use Rattle.packets.specs.Commands.{command_row}
use Rattle.packets.specs.Reading.{packet_read}
use Rattle.packets.specs.Answers.{error_answer}
use Rattle.tables.specs.declared.Header.{Header}
use Rattle.tables.specs.declared.Transfer.TheVariants.{Idle, Read}
use Rattle.tables.specs.Tables.{starts, with_read_place}
use Rattle.tables.specs.Port.{start_words, data_count}
use Rattle.frames.specs.Samples.{averages_of}
use Rattle.rules.specs.State.{ring_of, sound_pod, Lent, store_in, desk_in}
use Rattle.rules.specs.Obey.{shut, exchange_code, receives}
use Rattle.rules.specs.Refusals.{done, reads}
use Rattle.rules.specs.Families.{WordCall, command, data_in, data_out, status}
use Rattle.rules.specs.World.{World, with_pod, Call, packet, word, samples, room_of, told, stepped, answering, is_answered, is_refused, step, rows_of, next, final, run, tells, powered}
use Rattle.rules.specs.History.{events, event_of, fold, succeeded, errored}
use Rattle.rules.specs.Halves.{no_flow, flow_by, no_handing, handing_by}
use Rattle.rules.specs.Replies.{awake_from, waiting_from, status_from, read_answered, received_from, frames_from}
use Rattle.rules.specs.Checks.{Succeeds, Answers, damaged}
use Rattle.rules.specs.Judged.{check_of}
use Rattle.rules.specs.Numbered.{rows_rise, rows_in_order}
use Rattle.rules.specs.Transfers.{cuts, cuts_load, written_in, others_in, opened, loaded, Loads, Loading, word_shown, read_as, reads_in, Reads, error_by, tables_by}
use Rattle.rules.specs.Port.{port_by, heard_in, ported, ported_by}
use Rattle.rules.specs.Pairs.{Accepts, ShutsDown, kept_in, seen_in, sizes_in, Asleep, Moment, past_of}

-- ---- 1. "Any packet, word, sample or state may arrive. Each is answered, or refused by a number in document 01"

-- "A number is given exactly when its row holds": the first of the call's rows that holds; where none holds, the call is answered
abbrev pub AlwaysAnswered : Type 0
AlwaysAnswered = (w : World) (c : Call) (n : ℕ) → ((step w c).told.said ≡ refused n) ↔ First n (rows_of w c)

-- "Lowest number first": the rows of every call but the packet out, which request No. 3 orders, rise, so that the first is the lowest
abbrev pub LowestFirst : Type 0
LowestFirst =
    (w : World) (c : Call) (n : ℕ) → rows_rise c ≡ true
    → ((step w c).told.said ≡ refused n) ↔ ((held n (rows_of w c) ≡ true) × ((m : ℕ) → m < n → held m (rows_of w c) ≡ false))

-- and said by one table for all calls: "A number is given exactly when its row holds", and none before it does
abbrev pub RowsExactly : Type 0
RowsExactly = (w : World) (c : Call) (n : ℕ) → ((step w c).told.said ≡ refused n) ↔ First n (rows_in_order w c)

-- "A refused call gives its number and nothing else, and changes nothing": the answer room, where one is lent, is as it came, "and a
-- refused call leaves all its lent memory and the pod's state as they came"
abbrev pub RefusedUnchanged : Type 0
RefusedUnchanged =
    (w : World) (c : Call) (n : ℕ) → (step w c).told.said ≡ refused n → step w c ≡ stepped (refused n) (room_of c) w.pod w.lent

-- "Bounds of the state": a pod from power is within them, and no call leaves them
abbrev pub KeptSound : Type 0
KeptSound =
    ((l : Lent) → sound_pod (powered l).pod ≡ true)
    × ((w : World) (c : Call) → sound_pod w.pod ≡ true → sound_pod (next w c).pod ≡ true)

-- ---- 2. "Answers, tables, waiting blocks and frames are exactly what document 01 takes from those papers."

-- "A table load counts when its last word is in and every check passes, and then changes the addressed words and no other.": its
-- last word being y. All but the tables is what the calls between alone make of the world, with the load closed
abbrev pub LoadWhole : Type 0
LoadWhole =
    (w : World) (x : ℕ) (h : Header) (cs : List Call) (y : ℕ) → Loads w x h cs
    → final w (word (command x) ∷ (cs ++ (word (data_in y) ∷ [])))
    ≡ loaded h (written_in cs ++ (y ∷ [])) w.lent.tables (final (opened h w) (others_in cs))

-- a load cut short leaves nothing behind: while it is open none of its words stands in a table, and from the call on that closes it
-- before its last word, all answers and table words are, for ever, as if no word of it had come
abbrev pub LoadCut : Type 0
LoadCut =
    (w : World) (h : Header) (bs : List Call) (c : Call) (cs : List Call) → Loading w h bs
    → ((final w bs).lent.tables ≡ w.lent.tables)
    × (cuts cuts_load (event_of c (step (final w bs) c).told) ≡ true → run (final w bs) (c ∷ cs) ≡ run (final w (others_in bs)) (c ∷ cs))

-- "A read of N gives the same three header words and N-3 data words ..", each "as it is at that moment", whatever calls come in between
abbrev pub ReadWhole : Type 0
ReadWhole =
    (w : World) (x : ℕ) (h : Header) (at : ℕ) (cs : List Call) → Reads w x h at cs
    → (step (final w (word (command x) ∷ cs)) (word data_out)).told
    ≡ told (gave (reads (word_shown h at (final w (word (command x) ∷ cs)).lent.tables (reads_in cs)))) []

-- with its last word it is closed
abbrev pub ReadEnds : Type 0
ReadEnds =
    (w : World) (x : ℕ) (h : Header) (at : ℕ) (cs : List Call) → Reads w x h at cs
    → (final w (word (command x) ∷ (cs ++ (word data_out ∷ [])))).pod.words.transfer
    ≡ cond (eqb (reads_in cs + 1) h.n) Idle (Read h (reads_in cs + 1) at)

-- "An accepted read at once puts that place just behind its last data word, finished later or not", and the given address is "used up"
abbrev pub ReadMoves : Type 0
ReadMoves =
    (w : World) (x : ℕ) (h : Header) (at : ℕ) (cs : List Call) → Reads w x h at cs
    → ((final w (word (command x) ∷ cs)).pod.words.places ≡ with_read_place h.table (at + data_count h) w.pod.words.places)
    × ((final w (word (command x) ∷ cs)).pod.words.given ≡ None)

-- ".. and no other": the tables after any call, by what it is and told, the open transfer and the order heard
abbrev pub TablesOnly : Type 0
TablesOnly =
    (w : World) (c : Call)
    → (next w c).lent.tables ≡ tables_by (event_of c (step w c).told) w.pod.initialised w.pod.words (desk_in w.lent)

-- which calls set message error, clear it or leave it
abbrev pub MessageError : Type 0
MessageError =
    (w : World) (c : Call)
    → (next w c).pod.words.error
    ≡ error_by (event_of c (step w c).told) w.pod.initialised w.pod.words w.lent.load w.pod.words.error

-- no other call touches the table port
abbrev pub PortOnly : Type 0
PortOnly =
    (w : World) (c : Call)
    → (next w c).pod.words ≡ port_by (event_of c (step w c).told) w.pod.initialised w.pod.words (desk_in w.lent)

-- and a table word leaves each read place and the given address so
abbrev pub PlacesOnly : Type 0
PlacesOnly =
    (w : World) (c : WordCall) → is_answered w (word c) ≡ true
    → ((next w (word c)).pod.words.places ≡ (heard_in w c).words.places)
    × ((next w (word c)).pod.words.given ≡ (heard_in w c).words.given)

-- and the open transfer so
abbrev pub TransferOnly : Type 0
TransferOnly =
    (w : World) (c : WordCall) → is_answered w (word c) ≡ true → (next w (word c)).pod.words.transfer ≡ (heard_in w c).words.transfer

-- and so from power on all of the port, message error too, by the calls and what they told
abbrev pub PortIsHistory : Type 0
PortIsHistory =
    (l : Lent) (cs : List Call)
    → (final (powered l) cs).pod.words ≡ (fold ported_by (ported false start_words l.load) (events (powered l) cs)).words

-- "A read of N gives the same three header words and N-3 data words", "read with no transfer that way .. reads as 0": in any world
abbrev pub ReadsShown : Type 0
ReadsShown =
    (w : World) → is_answered w (word data_out) ≡ true
    → (step w (word data_out)).told ≡ told (gave (reads (read_as w.pod.words.transfer w.lent.tables))) []

-- "The status word is 2 with message error, else 0"
abbrev pub StatusWordShows : Type 0
StatusWordShows =
    (w : World) → is_answered w (word status) ≡ true → (step w (word status)).told ≡ told (gave (reads (cond w.pod.words.error 2 0))) []

-- "Checks in this order": a packet that is not refused is answered whole
abbrev pub PacketAnswered : Type 0
PacketAnswered =
    (w : World) (b room : List ℕ) → is_answered w (packet b room) ≡ true
    → Answers (packet_read b) w.pod room (step w (packet b room)).told

-- and checks 7 to 9 are these: a command gets the error of the first that fails, and succeeds where none does
abbrev pub ChecksExactly : Type 0
ChecksExactly =
    (w : World) (b room : List ℕ) (c : Command) → packet_read b ≡ Asked c → is_answered w (packet b room) ≡ true
    → (0 < check_of c w.pod → (step w (packet b room)).told ≡ answering room (error_answer (command_row c).code (check_of c w.pod)))
    × (check_of c w.pod ≡ 0 → Succeeds c room (step w (packet b room)).told)

-- "A type 2 answer without error opens an exchange", that of its code, and no other command does
abbrev pub OpensExactly : Type 0
OpensExactly =
    (w : World) (b room : List ℕ) (c : Command) → packet_read b ≡ Asked c → is_answered w (packet b room) ≡ true
    → exchange_code (next w (packet b room)).pod.exchange
    ≡ cond (eqb (command_row c).kind 2 && succeeded (step w (packet b room)).told) (command_row c).code 0

-- "A damaged packet closes at most an open exchange."
abbrev pub Damage : Type 0
Damage =
    (w : World) (b room : List ℕ) → damaged b ≡ true
    → next w (packet b room) ≡ cond (is_refused (step w (packet b room)).told.said) w (with_pod (shut w.pod) w)

-- "Under 4 bytes, or CRC wrong: 0x01", whatever else stands in it
abbrev pub DamageAnswered : Type 0
DamageAnswered =
    (w : World) (b room : List ℕ) → damaged b ≡ true → is_answered w (packet b room) ≡ true
    → (step w (packet b room)).told ≡ answering room (error_answer (get_or b 0 0) 0x01)

-- and so does every packet that gets an error answer: a field out of its bounds, a refused write, nothing waiting
abbrev pub ErrorUnchanged : Type 0
ErrorUnchanged =
    (w : World) (b room : List ℕ) → errored (step w (packet b room)).told ≡ true → next w (packet b room) ≡ with_pod (shut w.pod) w

-- "put adds a block behind the others", and acknowledged "the oldest block of that store is dropped": the blocks that wait are, in
-- order and byte for byte, those put since Initialise less those acknowledged
abbrev pub BlocksAreHistory : Type 0
BlocksAreHistory =
    (s : Store) (l : Lent) (cs : List Call)
    → blocks_in (capacity_of s) (ring_of s (final (powered l) cs).pod) (store_in s (final (powered l) cs).lent)
    ≡ waiting_from s (events (powered l) cs)

-- "A kept block is sent again at the next receive": a receive is answered with the first of them, or an error number
abbrev pub ReceiveIsHistory : Type 0
ReceiveIsHistory =
    (s : Store) (l : Lent) (cs : List Call) (b room : List ℕ) → packet_read b ≡ Asked (receives s)
    → is_answered (final (powered l) cs) (packet b room) ≡ true
    → (step (final (powered l) cs) (packet b room)).told ≡ answering room (received_from s (events (powered l) cs))

-- "mode, flags 2, priority blocks waiting 2, ordinary blocks waiting 4, request 0, eight ids": Status shows those of the history
abbrev pub StatusIsHistory : Type 0
StatusIsHistory =
    (l : Lent) (cs : List Call) (b room : List ℕ) → packet_read b ≡ Asked asked.Status
    → is_answered (final (powered l) cs) (packet b room) ≡ true
    → (step (final (powered l) cs) (packet b room)).told ≡ answering room (status_from (events (powered l) cs))

-- "parameter read after write": a read is answered with what was last written since Initialise, else the start, or an error number
abbrev pub ReadIsWritten : Type 0
ReadIsWritten =
    (l : Lent) (cs : List Call) (b room : List ℕ) (id : ℕ) → packet_read b ≡ Asked (asked.Read id)
    → is_answered (final (powered l) cs) (packet b room) ≡ true
    → (step (final (powered l) cs) (packet b room)).told ≡ answering room (read_answered id (events (powered l) cs))

-- each answered sample set shows its averages and the history, sixteen bytes whole
abbrev pub FramesAreHistory : Type 0
FramesAreHistory =
    (l : Lent) (cs : List Call) (k : ℕ) (xs : List ℕ) → is_answered (final (powered l) cs) (samples k xs) ≡ true
    → (step (final (powered l) cs) (samples k xs)).told
    ≡ told (gave done)
    (frames_from (averages_of 16 xs) (fold flow_by no_flow (events (powered l) cs)) (fold handing_by no_handing (events (powered l) cs))
    (awake_from (events (powered l) cs)) k)

-- ---- 3. "Give both the same accepted Initialise, then the same calls .. From that Initialise's answer on, their answers and
-- table words are equal, and are those of demand 2."

-- for ANY two worlds that agree in what outlives Initialise, whatever came before
abbrev pub NoTrace : Type 0
NoTrace =
    (f : Fields) (b room : List ℕ) (v w : World) → kept_in v ≡ kept_in w → Accepts f b room v → Accepts f b room w
    → (cs : List Call) → run v (packet b room ∷ cs) ≡ run w (packet b room ∷ cs)

-- all that is lent, empty
abbrev pub blank : Lent
blank = record { priority = replicate 4096 0; ordinary = replicate 32768 0; tables = starts; load = replicate 64 0 }

-- a pod just powered
abbrev pub just_powered : World
just_powered = powered blank

-- "and are those of demand 2": those of a pod just powered, of which demand 2 speaks, that gets the same Initialise
abbrev pub AsFromPower : Type 0
AsFromPower =
    (f : Fields) (b room : List ℕ) (w : World) → kept_in w ≡ kept_in just_powered → Accepts f b room w
    → (cs : List Call) → run w (packet b room ∷ cs) ≡ run just_powered (packet b room ∷ cs)

-- "Take two pods with any two pasts since power-on, damage and refusals included." Any damage is covered: memory may be
-- overwritten by anything at any time, so that such a past leads to any world at all, and this is NoTrace in the owner's words
abbrev pub NoTracePast : Type 0
NoTracePast =
    (f : Fields) (b room : List ℕ) (l m : Lent) (ds es : List Moment) → kept_in (past_of (powered l) ds) ≡ kept_in (past_of (powered m) es)
    → Accepts f b room (past_of (powered l) ds) → Accepts f b room (past_of (powered m) es)
    → (cs : List Call) → run (past_of (powered l) ds) (packet b room ∷ cs) ≡ run (past_of (powered m) es) (packet b room ∷ cs)

-- ".. two such pods that differ only in parameters, table words and survey blocks answer alike": every call, up to and
-- including the next accepted Initialise, and by NoTrace ever after
abbrev pub AnswerAlike : Type 0
AnswerAlike = (v w : World) → Asleep v w → (cs : List Call) → tells v cs ≡ tells w cs

-- "From power-on to the first accepted Initialise": two worlds from power on are such a pair, whatever their blocks
abbrev pub AsleepFromPower : Type 0
AsleepFromPower = (l m : Lent) → sizes_in l ≡ sizes_in m → Asleep (powered l) (powered m)

-- "and from an accepted Shutdown to the next accepted Initialise"
abbrev pub AsleepFromShutdown : Type 0
AsleepFromShutdown =
    (b room : List ℕ) (v w : World) → seen_in v ≡ seen_in w → ShutsDown b room v → ShutsDown b room w
    → Asleep (next v (packet b room)) (next w (packet b room))
