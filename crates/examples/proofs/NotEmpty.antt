-- The statements are not empty, by computation: what they assume is met, by worlds that differ.
-- Assumes nothing.
use Prim.Native.Nat.{ℕ}
use native.Mathlib.Omega.{arith}
use mathlib.Core.Path.{◌≡◌, refl, sym, ap, ◌∙◌}
use mathlib.Core.Bool.{Bool, true, false, false≢true}
use mathlib.Core.List.{List, [], ◌∷◌, ◌++◌, map}
use lib.IntN.{pos}
use lib.ListN.{get_or, replicate}
use lib.Count.{ones}
use Rattle.blocks.specs.declared.Ring.{Ring}
use Rattle.blocks.specs.declared.Store.TheVariants.{Priority}
use Rattle.params.specs.declared.Params.{Params}
use Rattle.packets.specs.declared.Fields.{Fields}
use Rattle.packets.specs.declared.Command.{Command}
use Rattle.packets.specs.declared.Command.TheVariants as asked
use Rattle.rules.specs.declared.Exchange.TheVariants.{Closed}
use Rattle.orders.specs.declared.Table.TheVariants.{Five, Seven}
use Rattle.rows.specs.Rows.{ran}
use Rattle.crc.specs.Crc.{poly, leaving, bit_in, bits, bits_in, crc_from, crc_of}
use Rattle.packets.specs.Answers.{with_crc, answer_of, error_answer, status_body, value_body, field_bytes, body_of, command_bytes}
use Rattle.packets.specs.Commands.{fields_of, fields_in, fields_bounded, find_in, listed_in, code_row, is_code, command_place, command_row}
use Rattle.numbers.specs.Layout.{laid_out, numbers_at}
use Rattle.numbers.specs.Numbers.{high_first, number_of, number_at, signed_of, unsigned_of}
use Rattle.packets.specs.Reading.{crc_right, acknowledges, packet_read}
use Rattle.rows.specs.Same.{same_list}
use Rattle.params.specs.Rules.{is_id, in_rows, filter, missing_ids, missing_of, list_kept, sound_params, start_params, struck, write_allowed}
use Rattle.blocks.specs.Stores.{store_sized, sound_ring, place_behind, block_at, blocks_from, blocks_in, oldest_of, put_ring, put_store, dropped_ring}
use Rattle.tables.specs.Bounds.{sound_places, sound_transfer, sound_words}
use Rattle.orders.specs.Command.{odd_ones, parts_of, order_of, order_heard}
use Rattle.tables.specs.Port.{header, start_words, close_of, read_opened_at, read_opened, restarted, order_obeyed, tables_after, command_of, wrong_way, load_right, stored_in, load_judged, load_of, word_taken, data_in_of, read_word, read_next, word_given, data_out_of, status_of}
use Rattle.tables.specs.Tables.{Three, listed, start_table, tables_sized}
use Rattle.pipe.specs.Input.{held_in, sent_packet, sent_bytes, empty_input, fresh_input, gathers, pipe_byte, count_up, pipe_timeout, sound_input, gathering_of}
use Rattle.pipe.specs.Output.{held_out, fresh_output, output_packet, output_taken, output_timeout, sound_output, busy_of}
use Rattle.pipe.specs.Pipe.{fresh_pipe, sound_pipe}
use Rattle.frames.specs.Fields.{placed, frame}
use Rattle.frames.specs.Layout.{lines03, lines47, frames_of}
use Rattle.frames.specs.Samples.{sample_at, sum_of, average_of, averages_of, bounded_of}
use Rattle.rules.specs.Calls.{power_call, packet_heard, meant_body, reply_bytes, spoken_bytes, answered, packet_call, put_call, word_call, lone_call, samples_call}
use Rattle.rules.specs.Families.{WordCall, command, data_in, data_out, status, byte, timeout, packet_out, taken, word_of, word_lent, pipe_of, deadline, pipe, lone_of}
use Rattle.rules.specs.History.{succeeded, errored, event_of, events}
use Rattle.rules.specs.Obey.{checks_of, initialised_pod, done_by, obey_of, matches, drop_from, settled, acknowledged_of, report_of}
use Rattle.examples.specs.Shown.{order, loading, reading, load, just_initialised}
use Rattle.rules.specs.State.{fresh_fields, fresh_pod, restful, sound_pod}
use Rattle.rules.specs.Transfers.{Loads, Loading, Reads, cuts_load, cuts_read, cuts, left_open, written_in, reads_in}
use Rattle.rules.specs.World.{World, Call, power, packet, put, word, lone, samples, Told, next, step, final, tells}
use Rattle.rules.specs.Pairs.{Accepts, ShutsDown, Seen, seen_in, Asleep}
use Rattle.rules.specs.Checks.{damaged}
use Rattle.examples.specs.Edges.{Edges}
use Rattle.examples.proofs.Edges.{all_edges}

-- a command as a call, in a room of its size
abbrev asks : Command → Call
asks c = packet (command_bytes c) (replicate 260 0)

-- fields out of their bounds
abbrev unfit : Fields
unfit = record { mode = 4; flags = 0; seconds = 0; milliseconds = 0; prioritylimit = 0; priorityremaining = 0; memorylimit = 0; memoryremaining = 0; poll = 1000 }

-- a world whose span was narrowed, with a block put
abbrev hired : World
hired =
    final just_initialised (asks (asked.Write 1 (pos 100)) ∷ asks (asked.Write 2 (pos 200)) ∷ put Priority (replicate 256 7) ∷ [])

-- a world whose span was narrowed, with a block put and a word loaded; one with another word loaded
abbrev busy : World
busy = final just_initialised (asks (asked.Write 1 (pos 100)) ∷ put Priority (replicate 256 7) ∷ load 5 0 1 7)

abbrev other : World
other = final just_initialised (load 5 0 1 9)

-- a world after Shutdown
abbrev left : World → World
left w = next w (asks asked.Shutdown)

-- what is seen of both, before the Shutdown and after it
abbrev seen_both : Bool → Seen
seen_both on =
    record {
      initialised = on;
      fields = fresh_fields;
      exchange = Closed;
      words = start_words;
      pipe = fresh_pipe;
      sizes = record { priority = 4096; ordinary = 32768; five = 64; six = 128; seven = 64; load = 64 };
    }

-- calls that leave a transfer open, a word of it coming between them three times: a packet answered, one damaged, one refused, an
-- Initialise and a put not accepted, a put, the deadline, the status word, each pipe call, samples
abbrev between : List Call → List Call → List Call → List Call
between a b c =
    (asks asked.Status ∷ a) ++ (packet (0x91 ∷ []) (replicate 260 0) ∷ packet [] [] ∷ asks (asked.Initialise unfit) ∷ b)
    ++ (put Priority [] ∷ put Priority (replicate 256 7) ∷ lone deadline ∷ word status ∷ lone (pipe (byte 1)) ∷ lone (pipe (packet_out (replicate 8 1))) ∷ lone (pipe taken) ∷ lone (pipe timeout) ∷ samples 0 (replicate 128 0) ∷ c)

abbrev amid_load : List Call
amid_load = between (loading (5 ∷ [])) (loading (63 ∷ [])) (loading (1 ∷ []))

abbrev amid_read : List Call
amid_read = between (reading 1) (reading 2) (reading 2)

abbrev read_at : World → Told
read_at w = (step w (asks (asked.Read 1))).told

-- what closes a transfer of which one word has come
abbrev closing : (WordCall → Bool) → World → Call → Bool
closing f w c = cuts f (event_of c (step w c).told)

pub record NotEmpty : Type 0 where
  -- NoTrace: one Initialise is accepted by two worlds
  pub first_accepts : Accepts fresh_fields (command_bytes (asked.Initialise fresh_fields)) (replicate 260 0) hired
  pub second_accepts : Accepts fresh_fields (command_bytes (asked.Initialise fresh_fields)) (replicate 260 0) just_initialised
  -- that answered differently before it, both without error
  pub first_answers : succeeded (read_at hired) ≡ true
  pub second_answers : succeeded (read_at just_initialised) ≡ true
  pub differently : read_at hired ≡ read_at just_initialised → ⊥
  -- AsleepFromShutdown: two such pods both accept a Shutdown
  pub alike : seen_in busy ≡ seen_in other
  pub first_shuts : ShutsDown (command_bytes asked.Shutdown) (replicate 260 0) busy
  pub second_shuts : ShutsDown (command_bytes asked.Shutdown) (replicate 260 0) other
  -- AnswerAlike: then they are asleep together, and differ in blocks, parameters, table words and the last load's words
  pub asleep : Asleep (left busy) (left other)
  pub blocks : (left busy).pod.priority ≡ (left other).pod.priority → ⊥
  pub params : (left busy).pod.params ≡ (left other).pod.params → ⊥
  pub words : (left busy).lent.tables ≡ (left other).lent.tables → ⊥
  pub gathered : (left busy).lent.load ≡ (left other).lent.load → ⊥
  -- LoadWhole, LoadCut: a load stays open amid many calls; it may be right or wrong
  pub loads : Loads just_initialised 0x0A04 (header Five 4) amid_load
  pub opens : Loading (final just_initialised (order 0x0A04)) (header Five 4) amid_load
  pub right : load_right (header Five 4) (written_in amid_load ++ (9 ∷ [])) ≡ true
  pub wrong : load_right (header Five 4) (5 ∷ 64 ∷ 1 ∷ 9 ∷ []) ≡ false
  -- and each call that closes it does: power on, an Initialise, a Shutdown, a command word accepted and one not, a data word read
  pub load_cut : map (closing cuts_load (final just_initialised (order 0x0A04 ++ loading (5 ∷ []))))
      (power ∷ asks (asked.Initialise fresh_fields) ∷ asks asked.Shutdown ∷ word (command 0x8000) ∷ word (command 0x0000) ∷ word data_out ∷ [])
      ≡ replicate 6 true
  -- ReadWhole, ReadEnds, ReadMoves: so does a read, at its table's read place and at a given address
  pub reads : Reads just_initialised 0xCE06 (header Seven 6) 0 amid_read
  pub reads_at : Reads (final just_initialised (order 0x8201 ++ loading (61 ∷ []))) 0xCE06 (header Seven 6) 61 amid_read
  pub read_cut : map (closing cuts_read (final just_initialised (order 0xCE06 ++ reading 1)))
      (power ∷ asks (asked.Initialise fresh_fields) ∷ asks asked.Shutdown ∷ word (command 0x8000) ∷ word (command 0x0000) ∷ word (data_in 5) ∷ [])
      ≡ replicate 6 true
  -- Damage, ErrorUnchanged: a packet is damaged by its length, one by its CRC; a command gets an error
  pub short : damaged (0x91 ∷ []) ≡ true
  pub broken_crc : damaged (0x91 ∷ 0x01 ∷ 0x00 ∷ 0x00 ∷ []) ≡ true
  pub errs : errored (step just_initialised (asks (asked.Initialise unfit))).told ≡ true
  -- AlwaysAnswered: each number is given, also where higher rows hold too
  pub numbers : Edges

pub not_empty : NotEmpty
unfolding ones ran poly leaving bit_in bits bits_in crc_from crc_of with_crc answer_of error_answer status_body value_body field_bytes body_of command_bytes laid_out numbers_at fields_of fields_in fields_bounded find_in listed_in code_row is_code command_place command_row high_first number_of number_at signed_of unsigned_of crc_right acknowledges packet_read is_id in_rows filter missing_ids missing_of same_list list_kept sound_params start_params struck write_allowed store_sized sound_ring place_behind block_at blocks_from blocks_in oldest_of put_ring put_store dropped_ring sound_places sound_transfer sound_words odd_ones parts_of order_of order_heard start_words close_of read_opened_at read_opened restarted order_obeyed tables_after command_of wrong_way load_right stored_in load_judged load_of word_taken data_in_of read_word read_next word_given data_out_of status_of listed start_table tables_sized held_in sent_packet sent_bytes empty_input fresh_input gathers pipe_byte count_up pipe_timeout sound_input gathering_of held_out fresh_output output_packet output_taken output_timeout sound_output busy_of fresh_pipe sound_pipe placed frame lines03 lines47 frames_of sample_at sum_of average_of averages_of bounded_of power_call packet_heard meant_body reply_bytes spoken_bytes answered packet_call put_call word_call lone_call samples_call word_of word_lent pipe_of lone_of succeeded errored event_of events checks_of initialised_pod done_by obey_of matches drop_from settled acknowledged_of report_of just_initialised fresh_fields fresh_pod restful sound_pod cuts left_open written_in reads_in step final tells
not_empty =
    let busy-seen : seen_in busy ≡ seen_both true = refl in
    let other-seen : seen_in other ≡ seen_both true = refl in
    let busy-left : seen_in (left busy) ≡ seen_both false = refl in
    let other-left : seen_in (left other) ≡ seen_both false = refl in
    record {
      first_accepts = record { asks = refl; accepted = refl; load = refl };
      second_accepts = record { asks = refl; accepted = refl; load = refl };
      first_answers = refl;
      second_answers = refl;
      differently = λ e. let z : ◌≡◌ {A = ℕ} 0 255 = ap (λ (t : Told). get_or t.bytes 3 0) e in omega arith;
      alike = busy-seen ∙ sym other-seen;
      first_shuts = record { asks = refl; accepted = refl };
      second_shuts = record { asks = refl; accepted = refl };
      asleep = record { seen = busy-left ∙ sym other-left; first = refl; second = refl; off = refl };
      blocks = λ e. let z : ◌≡◌ {A = ℕ} 1 0 = ap (λ (r : Ring). r.waiting) e in omega arith;
      params = λ e. false≢true (sym (ap (λ (q : Params). get_or q.written 0 false) e));
      words = λ e. let z : ◌≡◌ {A = ℕ} 7 9 = ap (λ (t : Three). get_or t.five 0 0) e in omega arith;
      gathered = λ e. let z : ◌≡◌ {A = ℕ} 7 9 = ap (λ (l : List ℕ). get_or l 3 0) e in omega arith;
      loads = record { fit = record { tables = refl; sound = refl; load = refl }; awake = refl; asked = refl; still = refl; last = refl };
      opens = record { fit = record { tables = refl; sound = refl; load = refl }; begun = refl; still = refl; short = omega arith };
      right = refl;
      wrong = refl;
      load_cut = refl;
      reads = record { fit = record { tables = refl; sound = refl; load = refl }; awake = refl; asked = refl; begun = refl; within = refl; still = refl; short = omega arith };
      reads_at = record { fit = record { tables = refl; sound = refl; load = refl }; awake = refl; asked = refl; begun = refl; within = refl; still = refl; short = omega arith };
      read_cut = refl;
      short = refl;
      broken_crc = refl;
      errs = refl;
      numbers = all_edges;
    }
