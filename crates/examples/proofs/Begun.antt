-- A pod just initialised, computed once.
-- Assumes nothing.
use mathlib.Core.Path.{◌≡◌, refl}
use Rattle.rows.specs.Rows.{ran}
use Rattle.crc.specs.Crc.{poly, leaving, bit_in, bits, bits_in, crc_from, crc_of}
use Rattle.packets.specs.Answers.{with_crc, answer_of, field_bytes, body_of, command_bytes}
use Rattle.packets.specs.Commands.{fields_of, fields_in, fields_bounded, find_in, listed_in, code_row, is_code, command_place, command_row}
use Rattle.numbers.specs.Layout.{laid_out, numbers_at}
use Rattle.numbers.specs.Numbers.{high_first, number_of, number_at}
use Rattle.packets.specs.Reading.{crc_right, acknowledges, packet_read}
use Rattle.rows.specs.Same.{same_list}
use Rattle.params.specs.Rules.{in_rows, filter, missing_ids, missing_of, list_kept, sound_params, start_params}
use Rattle.blocks.specs.Stores.{store_sized, sound_ring}
use Rattle.tables.specs.Bounds.{sound_places, sound_transfer, sound_words}
use Rattle.tables.specs.Port.{start_words}
use Rattle.tables.specs.Tables.{listed, start_table, tables_sized}
use Rattle.pipe.specs.Input.{empty_input, fresh_input, sound_input}
use Rattle.pipe.specs.Output.{fresh_output, sound_output}
use Rattle.pipe.specs.Pipe.{fresh_pipe, sound_pipe}
use Rattle.rules.specs.Calls.{power_call, packet_heard, meant_body, reply_bytes, spoken_bytes, answered, packet_call}
use Rattle.rules.specs.Obey.{checks_of, initialised_pod, done_by, obey_of}
use Rattle.rules.specs.State.{fresh_fields, fresh_pod, restful, sound_pod}
use Rattle.rules.specs.World.{World, world, step}
use Rattle.rules.specs.Demands.{blank}
use Rattle.examples.specs.Shown.{just_initialised}

abbrev pub awakened : World
awakened = world (initialised_pod fresh_fields) blank

pub begun : just_initialised ≡ awakened
unfolding ran poly leaving bit_in bits bits_in crc_from crc_of with_crc answer_of field_bytes body_of command_bytes laid_out numbers_at fields_of fields_in fields_bounded find_in listed_in code_row is_code command_place command_row high_first number_of number_at crc_right acknowledges packet_read in_rows filter missing_ids missing_of same_list list_kept sound_params start_params store_sized sound_ring sound_places sound_transfer sound_words start_words listed start_table tables_sized empty_input fresh_input sound_input fresh_output sound_output fresh_pipe sound_pipe power_call packet_heard meant_body reply_bytes spoken_bytes answered packet_call checks_of initialised_pod done_by obey_of just_initialised fresh_fields fresh_pod restful sound_pod step
begun = refl
