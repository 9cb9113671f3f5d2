-- The table words, by computation.
-- Assumes nothing.
use Prim.Native.Nat.{ℕ}
use mathlib.Core.Path.{refl, sym, subst}
use mathlib.Core.List.{flatten}
use lib.Count.{ones}
use Rattle.rows.specs.Rows.{ran}
use Rattle.crc.specs.Crc.{poly, leaving, bit_in, bits, bits_in, crc_from, crc_of}
use Rattle.packets.specs.Answers.{with_crc, answer_of, field_bytes, body_of, command_bytes}
use Rattle.packets.specs.Commands.{fields_of, fields_in, fields_bounded, find_in, listed_in, code_row, is_code, command_place, command_row}
use Rattle.numbers.specs.Layout.{laid_out, numbers_at}
use Rattle.numbers.specs.Numbers.{high_first, number_of, number_at}
use Rattle.packets.specs.Reading.{crc_right, acknowledges, packet_read}
use Rattle.rows.specs.Same.{same_list}
use Rattle.params.specs.Rules.{in_rows, filter, missing_ids, missing_of, list_kept, sound_params, start_params}
use Rattle.blocks.specs.Stores.{store_sized, sound_ring}
use Rattle.tables.specs.Bounds.{sound_places, sound_transfer, sound_words}
use Rattle.orders.specs.Command.{odd_ones, parts_of, order_of, order_heard}
use Rattle.tables.specs.Port.{start_words, close_of, read_opened_at, read_opened, restarted, order_obeyed, tables_after, command_of, wrong_way, load_right, stored_in, load_judged, load_of, word_taken, data_in_of, read_word, read_next, word_given, data_out_of, status_of}
use Rattle.tables.specs.Tables.{listed, start_table, tables_sized}
use Rattle.pipe.specs.Input.{empty_input, fresh_input, sound_input}
use Rattle.pipe.specs.Output.{fresh_output, sound_output}
use Rattle.pipe.specs.Pipe.{fresh_pipe, sound_pipe}
use Rattle.rules.specs.Calls.{power_call, packet_heard, meant_body, reply_bytes, spoken_bytes, answered, packet_call, word_call}
use Rattle.rules.specs.Families.{word_of, word_lent}
use Rattle.rules.specs.Obey.{checks_of, initialised_pod, done_by, obey_of}
use Rattle.rules.specs.State.{fresh_fields, fresh_pod, restful, sound_pod}
use Rattle.rules.specs.World.{World, step, final, tells}
use Rattle.examples.specs.Shown.{AsExpected}
use Rattle.examples.proofs.Begun.{awakened, begun}
use Rattle.word_examples.specs.Words.{words, closings, WordsComputed}

told-words : (x y z : ℕ) → AsExpected (words awakened x y z)
unfolding flatten ones ran poly leaving bit_in bits bits_in crc_from crc_of with_crc answer_of field_bytes body_of command_bytes laid_out numbers_at fields_of fields_in fields_bounded find_in listed_in code_row is_code command_place command_row high_first number_of number_at crc_right acknowledges packet_read in_rows filter missing_ids missing_of same_list list_kept sound_params start_params store_sized sound_ring sound_places sound_transfer sound_words odd_ones parts_of order_of order_heard start_words close_of read_opened_at read_opened order_obeyed tables_after command_of wrong_way load_right stored_in load_judged load_of word_taken data_in_of read_word read_next word_given data_out_of status_of listed start_table tables_sized empty_input fresh_input sound_input fresh_output sound_output fresh_pipe sound_pipe power_call packet_heard meant_body reply_bytes spoken_bytes answered packet_call word_call word_of word_lent checks_of initialised_pod done_by obey_of fresh_fields fresh_pod restful sound_pod step final tells
told-words x y z = refl

told-closings : (x : ℕ) → AsExpected (closings awakened x)
unfolding flatten ones ran poly leaving bit_in bits bits_in crc_from crc_of with_crc answer_of field_bytes body_of command_bytes laid_out numbers_at fields_of fields_in fields_bounded find_in listed_in code_row is_code command_place command_row high_first number_of number_at crc_right acknowledges packet_read in_rows filter missing_ids missing_of same_list list_kept sound_params start_params store_sized sound_ring sound_places sound_transfer sound_words odd_ones parts_of order_of order_heard start_words close_of read_opened_at read_opened restarted order_obeyed tables_after command_of wrong_way load_right stored_in load_judged load_of word_taken data_in_of read_word read_next word_given data_out_of status_of listed start_table tables_sized empty_input fresh_input sound_input fresh_output sound_output fresh_pipe sound_pipe power_call packet_heard meant_body reply_bytes spoken_bytes answered packet_call word_call word_of word_lent checks_of initialised_pod done_by obey_of fresh_fields fresh_pod restful sound_pod step final tells
told-closings x = refl

pub all_words : WordsComputed
all_words x y z =
    record {
      words = subst (λ (w : World). AsExpected (words w x y z)) (sym begun) (told-words x y z);
      closings = subst (λ (w : World). AsExpected (closings w x)) (sym begun) (told-closings x);
    }
