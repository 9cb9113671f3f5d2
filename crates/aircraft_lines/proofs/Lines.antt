-- The statements on the lines of aircraft as they are read, all of them.
-- Assumes nothing.
use Rattle.aircraft_lines.specs.Statements.{Lines}
use Rattle.aircraft_lines.proofs.Carried.{command_carried, each_asked, leading_minus}
use Rattle.aircraft_lines.proofs.Printed.{session_reads, answer-heard, no_bytes}

pub lines : Lines
lines =
    record {
      command_carried = command_carried;
      each_asked = each_asked;
      leading_minus = leading_minus;
      session_reads = session_reads;
      answer-heard = answer-heard;
      no_bytes = no_bytes;
    }
