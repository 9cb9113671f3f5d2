-- The statements on the lines of aircraft, all of them.
-- Assumes nothing.
use Rattle.aircraft_answers.specs.Statements.{Answers}
use Rattle.aircraft_answers.proofs.OneLine.{one_line}
use Rattle.aircraft_answers.proofs.Kept.{too_large, same_bytes, refused_keeps, no_send_used}
use Rattle.aircraft_answers.proofs.Replies.{command_printed, acknowledgement_printed, nothing_again, only_replies}

pub answers : Answers
answers =
    record {
      one_line = one_line;
      too_large = too_large;
      same_bytes = same_bytes;
      refused_keeps = refused_keeps;
      no_send_used = no_send_used;
      command_printed = command_printed;
      acknowledgement_printed = acknowledgement_printed;
      nothing_again = nothing_again;
      only_replies = only_replies;
    }
