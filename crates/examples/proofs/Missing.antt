-- The kept list, by computation.
-- Assumes nothing.
use mathlib.Core.Path.{◌≡◌, refl, sym, subst}
use mathlib.Core.List.{map}
use lib.Count.{ones}
use Rattle.rows.specs.Rows.{ran}
use Rattle.crc.specs.Crc.{poly, leaving, bit_in, bits, bits_in, crc_from, crc_of}
use Rattle.packets.specs.Answers.{with_crc, answer_of, error_answer, status_body, value_body, field_bytes, body_of, command_bytes}
use Rattle.numbers.specs.Layout.{laid_out, numbers_at}
use Rattle.packets.specs.Commands.{fields_of, fields_in, fields_bounded, find_in, listed_in, code_row, is_code, command_place, command_row}
use Rattle.numbers.specs.Numbers.{high_first, number_of, number_at, signed_of, unsigned_of}
use Rattle.packets.specs.Reading.{crc_right, acknowledges, packet_read}
use Rattle.rows.specs.Same.{same_list}
use Rattle.params.specs.Rules.{is_id, in_rows, filter, missing_ids, missing_of, list_kept, sound_params, start_params, struck, write_allowed}
use Rattle.blocks.specs.Stores.{store_sized, sound_ring, place_behind, block_at, blocks_from, blocks_in, oldest_of, put_ring, put_store, dropped_ring}
use Rattle.tables.specs.Bounds.{sound_places, sound_transfer, sound_words}
use Rattle.orders.specs.Command.{odd_ones, parts_of, order_of, order_heard}
use Rattle.tables.specs.Port.{start_words, close_of, read_opened_at, read_opened, restarted, order_obeyed, tables_after, command_of, wrong_way, load_right, stored_in, load_judged, load_of, word_taken, data_in_of, read_word, read_next, word_given, data_out_of, status_of}
use Rattle.tables.specs.Tables.{listed, start_table, tables_sized}
use Rattle.pipe.specs.Input.{held_in, sent_packet, sent_bytes, empty_input, fresh_input, gathers, pipe_byte, count_up, pipe_timeout, sound_input, gathering_of}
use Rattle.pipe.specs.Output.{held_out, fresh_output, output_packet, output_taken, output_timeout, sound_output, busy_of}
use Rattle.pipe.specs.Pipe.{fresh_pipe, sound_pipe}
use Rattle.frames.specs.Fields.{placed, frame}
use Rattle.frames.specs.Layout.{lines03, lines47, frames_of}
use Rattle.frames.specs.Samples.{sample_at, sum_of, average_of, averages_of, bounded_of}
use Rattle.rules.specs.Calls.{power_call, packet_heard, meant_body, reply_bytes, spoken_bytes, answered, packet_call, put_call, word_call, lone_call, samples_call}
use Rattle.rules.specs.Families.{word_of, word_lent, pipe_of, lone_of}
use Rattle.rules.specs.Obey.{checks_of, initialised_pod, done_by, obey_of, matches, drop_from, settled, acknowledged_of, report_of}
use Rattle.rules.specs.State.{fresh_fields, fresh_pod, restful, sound_pod}
use Rattle.rules.specs.World.{step, final, tells}
use Rattle.rules.specs.World.{World}
use Rattle.examples.specs.Shown.{AsExpected}
use Rattle.examples.specs.Missing.{list_bounds, list_lines, ListTurn, list_turns, shown_from, Missing}
use Rattle.examples.proofs.Begun.{awakened, begun}

list_bounds_lem : AsExpected list_bounds
unfolding ran in_rows filter missing_ids missing_of same_list list_kept sound_params start_params store_sized sound_ring sound_places sound_transfer sound_words start_words listed start_table tables_sized empty_input fresh_input sound_input fresh_output sound_output busy_of fresh_pipe sound_pipe bounded_of packet_read packet_heard spoken_bytes answered power_call packet_call put_call word_call lone_call samples_call word_lent initialised_pod fresh_fields fresh_pod restful sound_pod fields_bounded step
list_bounds_lem = refl

list_lines_lem : AsExpected (list_lines awakened)
unfolding ones ran poly leaving bit_in bits bits_in crc_from crc_of with_crc answer_of error_answer status_body value_body field_bytes body_of command_bytes laid_out numbers_at fields_of fields_in fields_bounded find_in listed_in code_row is_code command_place command_row high_first number_of number_at signed_of unsigned_of crc_right acknowledges packet_read is_id in_rows filter missing_ids missing_of same_list list_kept sound_params start_params struck write_allowed store_sized sound_ring place_behind block_at blocks_from blocks_in oldest_of put_ring put_store dropped_ring sound_places sound_transfer sound_words odd_ones parts_of order_of order_heard start_words close_of read_opened_at read_opened restarted order_obeyed tables_after command_of wrong_way load_right stored_in load_judged load_of word_taken data_in_of read_word read_next word_given data_out_of status_of listed start_table tables_sized held_in sent_packet sent_bytes empty_input fresh_input gathers pipe_byte count_up pipe_timeout sound_input gathering_of held_out fresh_output output_packet output_taken output_timeout sound_output busy_of fresh_pipe sound_pipe placed frame lines03 lines47 frames_of sample_at sum_of average_of averages_of bounded_of power_call packet_heard meant_body reply_bytes spoken_bytes answered packet_call put_call word_call lone_call samples_call word_of word_lent pipe_of lone_of checks_of initialised_pod done_by obey_of matches drop_from settled acknowledged_of report_of fresh_fields fresh_pod restful sound_pod step final tells
list_lines_lem = refl

list_turns_lem : shown_from awakened (map (λ (t : ListTurn). t.call) list_turns) ≡ map (λ (t : ListTurn). t.shown) list_turns
unfolding ones ran poly leaving bit_in bits bits_in crc_from crc_of with_crc answer_of error_answer status_body value_body field_bytes body_of command_bytes laid_out numbers_at fields_of fields_in fields_bounded find_in listed_in code_row is_code command_place command_row high_first number_of number_at signed_of unsigned_of crc_right acknowledges packet_read is_id in_rows filter missing_ids missing_of same_list list_kept sound_params start_params struck write_allowed store_sized sound_ring place_behind block_at blocks_from blocks_in oldest_of put_ring put_store dropped_ring sound_places sound_transfer sound_words odd_ones parts_of order_of order_heard start_words close_of read_opened_at read_opened restarted order_obeyed tables_after command_of wrong_way load_right stored_in load_judged load_of word_taken data_in_of read_word read_next word_given data_out_of status_of listed start_table tables_sized held_in sent_packet sent_bytes empty_input fresh_input gathers pipe_byte count_up pipe_timeout sound_input gathering_of held_out fresh_output output_packet output_taken output_timeout sound_output busy_of fresh_pipe sound_pipe placed frame lines03 lines47 frames_of sample_at sum_of average_of averages_of bounded_of power_call packet_heard meant_body reply_bytes spoken_bytes answered packet_call put_call word_call lone_call samples_call word_of word_lent pipe_of lone_of checks_of initialised_pod done_by obey_of matches drop_from settled acknowledged_of report_of fresh_fields fresh_pod restful sound_pod step final tells
list_turns_lem = refl

pub all_missing_lem : Missing
all_missing_lem =
    record {
      bounds = list_bounds_lem;
      ends = subst (λ (w : World). AsExpected (list_lines w)) (sym begun) list_lines_lem;
      turns = subst (λ (w : World). shown_from w (map (λ (t : ListTurn). t.call) list_turns) ≡ map (λ (t : ListTurn). t.shown) list_turns) (sym begun) list_turns_lem;
    }
