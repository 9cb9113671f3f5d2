-- The library's numbers, by computation.
-- Assumes nothing.
use mathlib.Core.Path.{refl}
use Rattle.crc.specs.Crc.{poly, leaving, bit_in, bits, bits_in, crc_from, crc_of}
use Rattle.numbers.specs.Numbers.{high_first, number_of, number_at}
use Rattle.packets.specs.Commands.{find_in, listed_in, code_row, is_code}
use Rattle.packets.specs.Reading.{crc_right}
use Rattle.airframe.specs.Reading.{success_right, answer_right, block_in, ids_in, report_in, request_in, body_meant, read_as}
use Rattle.airframe.specs.Sending.{unanswered, heard_of}
use Rattle.tolmezha.specs.Numbers.{sending_in}
use Rattle.tolmezha.specs.Statements.{LibraryShown}

pub library_shown : LibraryShown
unfolding poly leaving bit_in bits bits_in crc_from crc_of high_first number_of number_at find_in listed_in code_row is_code crc_right success_right answer_right block_in ids_in report_in request_in body_meant read_as unanswered heard_of sending_in
library_shown =
    record {
      a_status = refl;
      kinds = refl;
      an_error = refl;
      a_value_lem = refl;
      steps = refl;
      three = refl;
      two = refl;
      one = refl;
      none = refl;
    }
