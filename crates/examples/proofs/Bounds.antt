-- Every bound, by computation.
-- Assumes nothing.
use mathlib.Core.Path.{refl}
use Rattle.rows.specs.Rows.{ran}
use Rattle.packets.specs.Commands.{fields_bounded}
use Rattle.packets.specs.Reading.{packet_read}
use Rattle.rows.specs.Same.{same_list}
use Rattle.params.specs.Rules.{is_id, in_rows, filter, missing_ids, missing_of, list_kept, sound_params, start_params, struck, write_allowed}
use Rattle.blocks.specs.Stores.{store_sized, sound_ring}
use Rattle.tables.specs.Bounds.{sound_places, sound_transfer, sound_words}
use Rattle.tables.specs.Port.{start_words}
use Rattle.tables.specs.Tables.{listed, start_table, tables_sized}
use Rattle.pipe.specs.Input.{empty_input, fresh_input, sound_input}
use Rattle.pipe.specs.Output.{fresh_output, sound_output}
use Rattle.pipe.specs.Pipe.{fresh_pipe, sound_pipe}
use Rattle.frames.specs.Samples.{bounded_of}
use Rattle.rules.specs.Calls.{power_call, packet_heard, spoken_bytes, answered, packet_call, lone_call, samples_call}
use Rattle.rules.specs.State.{fresh_fields, fresh_pod, restful, sound_pod}
use Rattle.rules.specs.World.{step}
use Rattle.examples.specs.Shown.{AsExpected}
use Rattle.examples.specs.Bounds.{Starts, values_bounded, bounds, Bounds}

pub all-starts : Starts
unfolding start_params
all-starts = refl

pub all-values : AsExpected values_bounded
unfolding ran is_id in_rows filter missing_ids missing_of same_list list_kept sound_params start_params struck write_allowed sound_ring sound_places sound_transfer sound_words start_words tables_sized empty_input fresh_input sound_input fresh_output sound_output fresh_pipe sound_pipe power_call lone_call fresh_fields fresh_pod restful sound_pod fields_bounded step
all-values = refl

pub all_rest : AsExpected bounds
unfolding ran in_rows filter missing_ids missing_of same_list list_kept sound_params start_params store_sized sound_ring sound_places sound_transfer sound_words start_words listed start_table tables_sized empty_input fresh_input sound_input fresh_output sound_output fresh_pipe sound_pipe bounded_of packet_read packet_heard spoken_bytes answered power_call packet_call lone_call samples_call fresh_fields fresh_pod restful sound_pod fields_bounded step
all_rest = refl

pub all-bounds : Bounds
all-bounds = record { starts = all-starts; values = all-values; rest = all_rest }
