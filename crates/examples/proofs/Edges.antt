-- Which refusals come where, by computation.
-- Assumes nothing.
use mathlib.Core.Path.{refl, sym, subst}
use Rattle.rows.specs.Rows.{ran}
use Rattle.packets.specs.Commands.{fields_bounded}
use Rattle.packets.specs.Reading.{packet_read}
use Rattle.rows.specs.Same.{same_list}
use Rattle.params.specs.Rules.{in_rows, filter, missing_ids, missing_of, list_kept, sound_params, start_params}
use Rattle.blocks.specs.Stores.{store_sized, sound_ring}
use Rattle.tables.specs.Bounds.{sound_places, sound_transfer, sound_words}
use Rattle.tables.specs.Port.{start_words}
use Rattle.tables.specs.Tables.{listed, start_table, tables_sized}
use Rattle.pipe.specs.Input.{empty_input, fresh_input, sound_input}
use Rattle.pipe.specs.Output.{fresh_output, sound_output, busy_of}
use Rattle.pipe.specs.Pipe.{fresh_pipe, sound_pipe}
use Rattle.frames.specs.Samples.{bounded_of}
use Rattle.rules.specs.Calls.{power_call, packet_heard, spoken_bytes, answered, packet_call, put_call, word_call, lone_call, samples_call}
use Rattle.rules.specs.Families.{word_lent}
use Rattle.rules.specs.Obey.{initialised_pod}
use Rattle.examples.proofs.Begun.{awakened, begun}
use Rattle.rules.specs.State.{fresh_fields, fresh_pod, restful, sound_pod}
use Rattle.rules.specs.World.{World, step}
use Rattle.examples.specs.Shown.{AsExpected}
use Rattle.examples.specs.Edges.{edges, outward_edges, Edges}

told-edges : AsExpected (edges awakened)
unfolding ran in_rows filter missing_ids missing_of same_list list_kept sound_params start_params store_sized sound_ring sound_places sound_transfer sound_words start_words listed start_table tables_sized empty_input fresh_input sound_input fresh_output sound_output fresh_pipe sound_pipe bounded_of packet_read packet_heard spoken_bytes answered power_call packet_call put_call word_call lone_call samples_call word_lent initialised_pod fresh_fields fresh_pod restful sound_pod fields_bounded step
told-edges = refl

outward-edges : AsExpected (outward_edges awakened)
unfolding ran in_rows filter missing_ids missing_of same_list list_kept sound_params start_params store_sized sound_ring sound_places sound_transfer sound_words start_words listed start_table tables_sized empty_input fresh_input sound_input fresh_output sound_output busy_of fresh_pipe sound_pipe bounded_of packet_read packet_heard spoken_bytes answered power_call packet_call put_call word_call lone_call samples_call word_lent initialised_pod fresh_fields fresh_pod restful sound_pod fields_bounded step
outward-edges = refl

pub all_edges : Edges
all_edges =
    record {
      numbers = subst (λ (w : World). AsExpected (edges w)) (sym begun) told-edges;
      outward = subst (λ (w : World). AsExpected (outward_edges w)) (sym begun) outward-edges;
    }
