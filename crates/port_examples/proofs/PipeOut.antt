-- The output half of the pipe, by computation.
-- Assumes nothing.
use mathlib.Core.Path.{refl, sym, subst}
use Rattle.rows.specs.Rows.{ran}
use Rattle.crc.specs.Crc.{poly, leaving, bit_in, bits, bits_in, crc_from, crc_of}
use Rattle.packets.specs.Answers.{with_crc, answer_of, status_body}
use Rattle.packets.specs.Commands.{fields_of, fields_in, fields_bounded, find_in, listed_in, code_row, is_code, command_place, command_row}
use Rattle.numbers.specs.Layout.{numbers_at}
use Rattle.numbers.specs.Numbers.{high_first, number_of, number_at}
use Rattle.packets.specs.Reading.{crc_right, acknowledges, packet_read}
use Rattle.rows.specs.Same.{same_list}
use Rattle.params.specs.Rules.{is_id, in_rows, filter, missing_ids, missing_of, list_kept, sound_params, start_params, struck}
use Rattle.blocks.specs.Stores.{store_sized, sound_ring, place_behind, put_ring, put_store}
use Rattle.tables.specs.Bounds.{sound_places, sound_transfer, sound_words}
use Rattle.tables.specs.Port.{start_words, close_of, status_of}
use Rattle.tables.specs.Tables.{listed, start_table, tables_sized}
use Rattle.pipe.specs.Input.{held_in, sent_packet, sent_bytes, empty_input, fresh_input, gathers, pipe_byte, count_up, pipe_timeout, sound_input, gathering_of}
use Rattle.pipe.specs.Output.{held_out, fresh_output, output_packet, output_taken, output_timeout, sound_output, busy_of}
use Rattle.pipe.specs.Pipe.{fresh_pipe, sound_pipe}
use Rattle.frames.specs.Fields.{placed, frame}
use Rattle.frames.specs.Layout.{lines03, lines47, frames_of}
use Rattle.frames.specs.Samples.{sample_at, sum_of, average_of, averages_of, bounded_of}
use Rattle.rules.specs.Calls.{power_call, packet_heard, meant_body, reply_bytes, spoken_bytes, answered, packet_call, put_call, word_call, lone_call, samples_call}
use Rattle.rules.specs.Families.{word_of, word_lent, pipe_of, lone_of}
use Rattle.rules.specs.Obey.{checks_of, initialised_pod, done_by, obey_of, matches, settled, acknowledged_of, report_of}
use Rattle.rules.specs.State.{fresh_fields, fresh_pod, restful, sound_pod}
use Rattle.rules.specs.World.{World, world, step, tells}
use Rattle.examples.specs.Computed.{dusty}
use Rattle.examples.proofs.Begun.{awakened, begun}
use Rattle.port_examples.specs.Packets.{Talks}
use Rattle.port_examples.specs.PipeAlone.{PipeAlone, DeadlineAlone}
use Rattle.port_examples.specs.PipeOut.{asleep_first, handed_over, rest_dropped, counted_drops, both_halves, outlasting, PipeOut}

refused_asleep : Talks (world fresh_pod dusty) asleep_first
unfolding ran poly leaving bit_in bits bits_in crc_from crc_of with_crc answer_of fields_of fields_in fields_bounded find_in listed_in code_row is_code command_place command_row numbers_at high_first number_of number_at crc_right acknowledges packet_read is_id in_rows filter missing_ids missing_of same_list list_kept sound_params start_params store_sized sound_ring sound_places sound_transfer sound_words start_words close_of listed start_table tables_sized held_in sent_packet sent_bytes empty_input fresh_input gathers pipe_byte count_up pipe_timeout sound_input gathering_of held_out fresh_output output_packet output_taken output_timeout sound_output busy_of fresh_pipe sound_pipe placed frame lines03 lines47 frames_of sample_at sum_of average_of averages_of bounded_of power_call packet_heard meant_body reply_bytes spoken_bytes answered packet_call lone_call samples_call pipe_of lone_of checks_of initialised_pod done_by obey_of fresh_fields fresh_pod restful sound_pod step tells
refused_asleep = refl

byte_by_byte : Talks awakened handed_over
unfolding ran fields_bounded in_rows filter missing_ids missing_of same_list list_kept sound_params start_params sound_ring sound_places sound_transfer sound_words start_words held_in sent_packet sent_bytes empty_input fresh_input pipe_timeout sound_input gathering_of count_up held_out fresh_output output_packet output_taken output_timeout sound_output busy_of fresh_pipe sound_pipe placed frame lines03 lines47 frames_of sample_at sum_of average_of averages_of bounded_of lone_call samples_call pipe_of lone_of initialised_pod fresh_fields fresh_pod restful sound_pod step tells
byte_by_byte = refl

rest_dropped_lem : Talks awakened rest_dropped
unfolding ran fields_bounded in_rows filter missing_ids missing_of same_list list_kept sound_params start_params sound_ring sound_places sound_transfer sound_words start_words held_in sent_packet sent_bytes empty_input fresh_input pipe_timeout sound_input gathering_of count_up held_out fresh_output output_packet output_taken output_timeout sound_output busy_of fresh_pipe sound_pipe placed frame lines03 lines47 frames_of sample_at sum_of average_of averages_of bounded_of lone_call samples_call pipe_of lone_of initialised_pod fresh_fields fresh_pod restful sound_pod step tells
rest_dropped_lem = refl

to_fifteen : Talks awakened counted_drops
unfolding ran fields_bounded in_rows filter missing_ids missing_of same_list list_kept sound_params start_params sound_ring sound_places sound_transfer sound_words start_words held_in sent_packet sent_bytes empty_input fresh_input gathers pipe_byte pipe_timeout sound_input gathering_of count_up held_out fresh_output output_packet output_taken output_timeout sound_output busy_of fresh_pipe sound_pipe placed frame lines03 lines47 frames_of sample_at sum_of average_of averages_of bounded_of lone_call samples_call pipe_of lone_of initialised_pod fresh_fields fresh_pod restful sound_pod step tells
to_fifteen = refl

each_its_own : Talks awakened both_halves
unfolding ran fields_bounded in_rows filter missing_ids missing_of same_list list_kept sound_params start_params sound_ring sound_places sound_transfer sound_words start_words held_in sent_packet sent_bytes empty_input fresh_input gathers pipe_byte pipe_timeout sound_input gathering_of count_up held_out fresh_output output_packet output_taken output_timeout sound_output busy_of fresh_pipe sound_pipe placed frame lines03 lines47 frames_of sample_at sum_of average_of averages_of bounded_of lone_call samples_call pipe_of lone_of initialised_pod fresh_fields fresh_pod restful sound_pod step tells
each_its_own = refl

kept_or_emptied : Talks awakened outlasting
unfolding ran poly leaving bit_in bits bits_in crc_from crc_of with_crc answer_of fields_of fields_in fields_bounded find_in listed_in code_row is_code command_place command_row numbers_at high_first number_of number_at crc_right acknowledges packet_read is_id in_rows filter missing_ids missing_of same_list list_kept sound_params start_params store_sized sound_ring sound_places sound_transfer sound_words start_words close_of listed start_table tables_sized held_in sent_packet sent_bytes empty_input fresh_input gathers pipe_byte count_up pipe_timeout sound_input gathering_of held_out fresh_output output_packet output_taken output_timeout sound_output busy_of fresh_pipe sound_pipe placed frame lines03 lines47 frames_of sample_at sum_of average_of averages_of bounded_of power_call packet_heard meant_body reply_bytes spoken_bytes answered packet_call lone_call samples_call pipe_of lone_of checks_of initialised_pod done_by obey_of fresh_fields fresh_pod restful sound_pod step tells status_body place_behind put_ring put_store status_of put_call word_call word_of word_lent matches settled acknowledged_of report_of
kept_or_emptied = refl

nothing_else : PipeAlone
unfolding ran fields_bounded in_rows filter missing_ids missing_of same_list list_kept sound_params start_params struck sound_ring sound_places sound_transfer sound_words start_words held_in sent_packet empty_input fresh_input gathers pipe_byte pipe_timeout sound_input count_up held_out fresh_output output_packet output_taken output_timeout sound_output busy_of fresh_pipe sound_pipe lone_call pipe_of lone_of initialised_pod fresh_fields fresh_pod restful sound_pod step
nothing_else x l = refl

only_closes : DeadlineAlone
unfolding ran fields_bounded in_rows filter missing_ids missing_of same_list list_kept sound_params start_params struck sound_ring sound_places sound_transfer sound_words start_words sent_packet sound_input sound_output sound_pipe lone_call lone_of initialised_pod fresh_pod restful sound_pod step
only_closes x l b = refl

pub pipe_out : PipeOut
pipe_out =
    record {
      asleep = refused_asleep;
      awake = subst (λ (w : World). Talks w handed_over) (sym begun) byte_by_byte;
      dropped = subst (λ (w : World). Talks w rest_dropped) (sym begun) rest_dropped_lem;
      counted = subst (λ (w : World). Talks w counted_drops) (sym begun) to_fifteen;
      both = subst (λ (w : World). Talks w both_halves) (sym begun) each_its_own;
      outlasts = subst (λ (w : World). Talks w outlasting) (sym begun) kept_or_emptied;
      alone = nothing_else;
      late = only_closes;
    }
