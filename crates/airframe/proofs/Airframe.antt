-- The theorem of request No. 1's library: all its statements.
-- Assumes nothing.
use Rattle.airframe.specs.Statements.{Airframe}
use Rattle.airframe.proofs.Carried.{built_is_read, commands_apart}
use Rattle.airframe.proofs.Acknowledged.{acknowledged_is_read, acknowledged_exactly, acknowledgements_apart}
use Rattle.airframe.proofs.Refuses.{building_refuses, acknowledging_refuses}
use Rattle.airframe.proofs.AnswersRead.{answers_read}
use Rattle.airframe.proofs.ReadExactly.{read_exactly}
use Rattle.airframe.proofs.Damage.{damaged-answer, damaged-command, damaged-acknowledgement}
use Rattle.airframe.proofs.NoReply.{as_no_reply_lem}
use Rattle.airframe.proofs.Replies.{again_thrice, lost_at_fourth, again_while, ended_once}
use Rattle.airframe.proofs.Beside.{read-beside}
use Rattle.airframe.proofs.Decided.{build_decided, read_decided, heard_decided}

pub airframe : Airframe
airframe =
    record {
      built_is_read = built_is_read;
      acknowledged_is_read = acknowledged_is_read;
      acknowledged_exactly = acknowledged_exactly;
      commands_apart = commands_apart;
      acknowledgements_apart = acknowledgements_apart;
      building_refuses = building_refuses;
      acknowledging_refuses = acknowledging_refuses;
      answers_read = answers_read;
      read_exactly = read_exactly;
      damaged-answer = damaged-answer;
      damaged-command = damaged-command;
      damaged-acknowledgement = damaged-acknowledgement;
      as_no_reply_lem = as_no_reply_lem;
      again_thrice = again_thrice;
      lost_at_fourth = lost_at_fourth;
      again_while = again_while;
      ended_once = ended_once;
      read-beside = read-beside;
      build_decided = build_decided;
      read_decided = read_decided;
      heard_decided = heard_decided;
    }
