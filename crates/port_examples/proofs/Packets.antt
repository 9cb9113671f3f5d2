-- The packets, by computation.
-- Assumes nothing.
use mathlib.Core.Path.{◌≡◌, refl}
use Rattle.rows.specs.Rows.{ran}
use Rattle.crc.specs.Crc.{poly, leaving, bit_in, bits, bits_in, crc_from, crc_of}
use Rattle.packets.specs.Answers.{with_crc, answer_of, error_answer, status_body, value_body, field_bytes, body_of, command_bytes}
use Rattle.packets.specs.Commands.{fields_of, fields_in, fields_bounded, find_in, listed_in, code_row, is_code, command_place, command_row}
use Rattle.numbers.specs.Layout.{laid_out, numbers_at}
use Rattle.numbers.specs.Numbers.{high_first, number_of, number_at, signed_of, unsigned_of}
use Rattle.packets.specs.Reading.{crc_right, acknowledges, packet_read}
use Rattle.rows.specs.Same.{same_list}
use Rattle.params.specs.Rules.{is_id, in_rows, filter, missing_ids, missing_of, list_kept, sound_params, start_params, struck, write_allowed}
use Rattle.blocks.specs.Stores.{store_sized, sound_ring, place_behind, block_at, blocks_from, blocks_in, oldest_of, put_ring, put_store, dropped_ring}
use Rattle.tables.specs.Bounds.{sound_places, sound_transfer, sound_words}
use Rattle.tables.specs.Port.{start_words, close_of, status_of}
use Rattle.tables.specs.Tables.{listed, start_table, tables_sized}
use Rattle.pipe.specs.Input.{empty_input, fresh_input, sound_input, held_in, sent_packet, sent_bytes, gathers, pipe_byte, count_up, pipe_timeout, gathering_of}
use Rattle.pipe.specs.Output.{held_out, fresh_output, output_packet, output_taken, output_timeout, sound_output, busy_of}
use Rattle.pipe.specs.Pipe.{fresh_pipe, sound_pipe}
use Rattle.rules.specs.Calls.{power_call, packet_heard, meant_body, reply_bytes, spoken_bytes, answered, packet_call, put_call, word_call, lone_call, samples_call}
use Rattle.rules.specs.Obey.{checks_of, initialised_pod, done_by, obey_of, matches, settled, acknowledged_of, report_of, drop_from}
use Rattle.rules.specs.State.{fresh_fields, fresh_pod, restful, sound_pod}
use Rattle.rules.specs.declared.Exchange.{Exchange}
use Rattle.rules.specs.declared.Exchange.TheVariants.{Closed}
use Rattle.rules.specs.World.{lone, step, tells, world, next, final}
use mathlib.Core.List.{[], ◌∷◌}
use Rattle.frames.specs.Samples.{bounded_of}
use Rattle.rules.specs.Families.{deadline, word_of, word_lent, pipe_of, lone_of}
use Rattle.examples.specs.Shown.{just_initialised, AsExpected}
use Rattle.examples.specs.Computed.{dusty}
use Rattle.port_examples.specs.Packets.{Talks, checks, keeps, unfit, update, updated, beside, open_then, exchanges, Packets}

pub heard : Talks (world fresh_pod dusty) checks
unfolding ran poly leaving bit_in bits bits_in crc_from crc_of with_crc answer_of error_answer numbers_at fields_of fields_in fields_bounded find_in listed_in code_row is_code command_place command_row high_first number_of number_at crc_right acknowledges packet_read is_id in_rows filter missing_ids missing_of same_list list_kept sound_params start_params store_sized sound_ring place_behind block_at blocks_from blocks_in oldest_of put_ring put_store sound_places sound_transfer sound_words start_words close_of listed start_table tables_sized empty_input fresh_input sound_input fresh_output sound_output fresh_pipe sound_pipe power_call packet_heard meant_body reply_bytes spoken_bytes answered packet_call put_call checks_of initialised_pod done_by obey_of matches settled acknowledged_of fresh_fields fresh_pod restful sound_pod step tells
heard = refl

pub written : Talks just_initialised keeps
unfolding ran poly leaving bit_in bits bits_in crc_from crc_of with_crc answer_of error_answer status_body value_body numbers_at fields_of fields_in fields_bounded find_in listed_in code_row is_code command_place command_row high_first number_of number_at signed_of unsigned_of crc_right acknowledges packet_read is_id in_rows filter missing_ids missing_of same_list list_kept sound_params start_params struck write_allowed store_sized sound_ring sound_places sound_transfer sound_words start_words close_of listed start_table tables_sized empty_input fresh_input sound_input fresh_output sound_output fresh_pipe sound_pipe power_call packet_heard meant_body reply_bytes spoken_bytes answered packet_call checks_of initialised_pod done_by obey_of report_of fresh_fields fresh_pod restful sound_pod step tells just_initialised command_bytes field_bytes body_of laid_out put_call put_ring put_store place_behind
written = refl

pub taken : Talks just_initialised (unfit ∷ update ∷ [])
unfolding ran poly leaving bit_in bits bits_in crc_from crc_of with_crc answer_of error_answer numbers_at fields_of fields_in fields_bounded find_in listed_in code_row is_code command_place command_row high_first number_of number_at crc_right acknowledges packet_read in_rows filter missing_ids missing_of same_list list_kept sound_params start_params store_sized sound_ring sound_places sound_transfer sound_words start_words close_of listed start_table tables_sized empty_input fresh_input sound_input fresh_output sound_output fresh_pipe sound_pipe power_call packet_heard meant_body reply_bytes spoken_bytes answered packet_call checks_of initialised_pod done_by obey_of fresh_fields fresh_pod restful sound_pod step tells just_initialised command_bytes field_bytes body_of laid_out
taken = refl

pub stored : (next just_initialised update.call).pod.fields ≡ updated
unfolding ran poly leaving bit_in bits bits_in crc_from crc_of with_crc answer_of error_answer numbers_at fields_of fields_in fields_bounded find_in listed_in code_row is_code command_place command_row high_first number_of number_at crc_right acknowledges packet_read in_rows filter missing_ids missing_of same_list list_kept sound_params start_params store_sized sound_ring sound_places sound_transfer sound_words start_words close_of listed start_table tables_sized empty_input fresh_input sound_input fresh_output sound_output fresh_pipe sound_pipe power_call packet_heard meant_body reply_bytes spoken_bytes answered packet_call checks_of initialised_pod done_by obey_of fresh_fields fresh_pod restful sound_pod step tells just_initialised command_bytes field_bytes body_of laid_out
stored = refl

exchanged : AsExpected exchanges
unfolding ran poly leaving bit_in bits bits_in crc_from crc_of with_crc answer_of error_answer field_bytes body_of command_bytes laid_out numbers_at fields_of fields_in fields_bounded find_in listed_in code_row is_code command_place command_row high_first number_of number_at crc_right acknowledges packet_read in_rows filter missing_ids missing_of same_list list_kept sound_params start_params store_sized sound_ring sound_places sound_transfer sound_words start_words close_of listed start_table tables_sized held_in sent_packet sent_bytes empty_input fresh_input gathers pipe_byte count_up pipe_timeout sound_input gathering_of fresh_output output_timeout sound_output fresh_pipe sound_pipe power_call packet_heard meant_body reply_bytes spoken_bytes answered packet_call lone_call pipe_of lone_of checks_of initialised_pod done_by obey_of just_initialised fresh_fields fresh_pod restful sound_pod step final tells place_behind block_at blocks_from blocks_in oldest_of put_ring put_store dropped_ring put_call matches drop_from settled acknowledged_of
exchanged = refl

-- whichever exchange is open
opened : (x : Exchange) → (open_then (lone deadline ∷ []) x ≡ Closed) × (open_then beside x ≡ x)
unfolding ran crc_from packet_read fields_bounded in_rows filter missing_ids missing_of same_list list_kept sound_params start_params store_sized sound_ring sound_places sound_transfer sound_words start_words status_of listed start_table tables_sized held_in sent_packet sent_bytes empty_input fresh_input gathers pipe_byte count_up pipe_timeout sound_input held_out fresh_output output_packet output_taken output_timeout sound_output busy_of fresh_pipe sound_pipe bounded_of packet_heard spoken_bytes answered packet_call word_call lone_call samples_call word_of word_lent pipe_of lone_of initialised_pod fresh_pod restful sound_pod step final put_ring put_store place_behind put_call
opened x = (refl, refl)

pub all_packets : Packets
all_packets = record { asleep = heard; parameters = written; updates = taken; fields = stored; exchanges = exchanged; closes = λ x. (opened x).0; stays = λ x. (opened x).1 }
