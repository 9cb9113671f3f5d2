-- Acknowledgements, by computation.
-- Assumes nothing.
use Prim.Native.Nat.{ℕ, suc, ◌-◌}
use native.Mathlib.Omega.{arith}
use mathlib.Core.Path.{◌≡◌, refl}
use mathlib.Core.Bool.{Bool, true, false}
use lib.Dec.{eqb}
use borrow.Author.Tests.{ne_eqb}
use Rattle.rules.specs.declared.Exchange.TheVariants.{Closed, Status, Read}
use Rattle.rows.specs.Rows.{ran}
use Rattle.crc.specs.Crc.{poly, leaving, bit_in, bits, bits_in, crc_from, crc_of}
use Rattle.packets.specs.Answers.{with_crc, answer_of, error_answer, status_body, field_bytes, body_of, command_bytes}
use Rattle.packets.specs.Commands.{fields_of, fields_in, fields_bounded, find_in, listed_in, code_row, is_code, command_place, command_row}
use Rattle.numbers.specs.Layout.{laid_out, numbers_at}
use Rattle.numbers.specs.Numbers.{high_first, number_of, number_at}
use Rattle.packets.specs.Reading.{crc_right, acknowledges, packet_read}
use Rattle.rows.specs.Same.{same_list}
use Rattle.params.specs.Rules.{is_id, in_rows, filter, missing_ids, missing_of, list_kept, sound_params, start_params}
use Rattle.blocks.specs.Stores.{store_sized, sound_ring, place_behind, block_at, blocks_from, blocks_in, oldest_of, put_ring, put_store, dropped_ring}
use Rattle.tables.specs.Bounds.{sound_places, sound_transfer, sound_words}
use Rattle.tables.specs.Port.{start_words, close_of}
use Rattle.tables.specs.Tables.{listed, start_table, tables_sized}
use Rattle.pipe.specs.Input.{empty_input, fresh_input, sound_input, sent_packet, sent_bytes}
use Rattle.pipe.specs.Output.{fresh_output, sound_output}
use Rattle.pipe.specs.Pipe.{fresh_pipe, sound_pipe}
use Rattle.rules.specs.Calls.{power_call, packet_heard, meant_body, reply_bytes, spoken_bytes, answered, packet_call, put_call, lone_call}
use Rattle.rules.specs.Obey.{checks_of, initialised_pod, done_by, obey_of, matches, settled, acknowledged_of, report_of, drop_from}
use Rattle.rules.specs.State.{Lent, fresh_fields, fresh_pod, restful, sound_pod}
use Rattle.rules.specs.World.{step, tells, final}
use Rattle.rules.specs.Families.{lone_of}
use Rattle.examples.specs.Shown.{just_initialised}
use Rattle.port_examples.specs.Packets.{Talks, Stock}
use Rattle.port_examples.specs.Acknowledgements.{acknowledged90, AllKeep, Acknowledgements}

talked : Talks just_initialised acknowledged90
unfolding ran poly leaving bit_in bits bits_in crc_from crc_of with_crc answer_of error_answer field_bytes body_of command_bytes laid_out numbers_at fields_of fields_in fields_bounded find_in listed_in code_row is_code command_place command_row high_first number_of number_at crc_right acknowledges packet_read is_id in_rows filter missing_ids missing_of same_list list_kept sound_params start_params store_sized sound_ring sound_places sound_transfer sound_words start_words close_of listed start_table tables_sized sent_packet sent_bytes empty_input fresh_input sound_input fresh_output sound_output fresh_pipe sound_pipe packet_heard meant_body reply_bytes spoken_bytes answered packet_call lone_call lone_of checks_of initialised_pod done_by obey_of just_initialised fresh_fields fresh_pod restful sound_pod step tells status_body place_behind block_at blocks_from blocks_in oldest_of put_ring put_store dropped_ring put_call matches drop_from settled acknowledged_of report_of final power_call
talked = refl

others_kept : (one : Bool) (l : Lent) (g : Stock) → AllKeep Closed one l g × AllKeep Status one l g × AllKeep Read one l g
unfolding packet_heard acknowledged_of matches settled command_row command_place
others_kept true l g = (refl, refl, refl)
others_kept false l g = (refl, refl, refl)

-- a block waits, and may be sent; there is one less
some : (n : ℕ) → eqb (suc n) 0 ≡ false
some n = ne_eqb (suc n) 0 (λ e. omega arith)

less : (n : ℕ) → suc n - 1 ≡ n
less n = omega arith

pub all_acknowledgements : Acknowledgements
unfolding packet_heard acknowledged_of matches settled drop_from dropped_ring place_behind command_row command_place
all_acknowledgements =
    record { talk = talked; others = others_kept; failed = λ s l g. refl; priority = λ l g. simp (some, less); ordinary = λ l g. simp (some, less) }
