-- All that the owner asked for holds.
-- Assumes nothing.
use Rattle.rules.specs.Whole.{Whole}
use Rattle.rules.proofs.Answered.{always_answered, lowest_first, refused_unchanged, says_done}
use Rattle.rules.proofs.Numbered.{rows_exactly}
use Rattle.rules.proofs.Sound.{kept_sound}
use Rattle.rules.proofs.LoadWhole.{load_whole}
use Rattle.rules.proofs.LoadCut.{load_cut}
use Rattle.rules.proofs.ReadWhole.{read_whole, read-ends, read_moves}
use Rattle.rules.proofs.NoOther.{tables_only}
use Rattle.rules.proofs.MessageError.{message_error, status_word_shows}
use Rattle.rules.proofs.PortOnly.{port_only, places-only}
use Rattle.rules.proofs.TransferOnly.{transfer_only, reads_shown}
use Rattle.rules.proofs.PortHistory.{port_is_history}
use Rattle.rules.proofs.Checked.{packet_answered, opens_exactly, damage, damage_answered, error_unchanged}
use Rattle.rules.proofs.Judged.{checks_exactly}
use Rattle.rules.proofs.Blocks.{blocks_are_history}
use Rattle.rules.proofs.Asked.{receive_is_history, status_is_history, read_is_written}
use Rattle.rules.proofs.Flow.{pipe_is_history}
use Rattle.rules.proofs.Handed.{handed_is_history}
use Rattle.rules.proofs.PipeOnly.{pipe_only}
use Rattle.rules.proofs.Frames.{frames_are_history}
use Rattle.rules.proofs.Kept.{awake_is_history, fields_are_history, exchange_is_history, params_are_history, marks_are_history, drop_guarded, fresh_is}
use Rattle.rules.proofs.Listed.{list_judged, list_is_history, params_only, power_mends}
use Rattle.rules.proofs.NoTrace.{no_trace, as_from_power, no_trace_past}
use Rattle.rules.proofs.Asleep.{answer_alike, asleep_from_power, asleep_from_shutdown}

pub whole : Whole
whole =
    record {
      always_answered = always_answered;
      lowest_first = lowest_first;
      rows_exactly = rows_exactly;
      refused_unchanged = refused_unchanged;
      kept_sound = kept_sound;
      says_done = says_done;
      list_judged = list_judged;
      power_mends = power_mends;
      load_whole = load_whole;
      load_cut = load_cut;
      read_whole = read_whole;
      read-ends = read-ends;
      read_moves = read_moves;
      tables_only = tables_only;
      message_error = message_error;
      status_word_shows = status_word_shows;
      port_only = port_only;
      places-only = places-only;
      transfer_only = transfer_only;
      port_is_history = port_is_history;
      reads_shown = reads_shown;
      packet_answered = packet_answered;
      checks_exactly = checks_exactly;
      opens_exactly = opens_exactly;
      damage = damage;
      damage_answered = damage_answered;
      error_unchanged = error_unchanged;
      blocks_are_history = blocks_are_history;
      receive_is_history = receive_is_history;
      status_is_history = status_is_history;
      read_is_written = read_is_written;
      pipe_is_history = pipe_is_history;
      handed_is_history = handed_is_history;
      pipe_only = pipe_only;
      frames_are_history = frames_are_history;
      awake_is_history = awake_is_history;
      fields_are_history = fields_are_history;
      exchange_is_history = exchange_is_history;
      params_are_history = params_are_history;
      marks_are_history = marks_are_history;
      drop_guarded = drop_guarded;
      fresh_is = fresh_is;
      list_is_history = list_is_history;
      params_only = params_only;
      no_trace = no_trace;
      as_from_power = as_from_power;
      no_trace_past = no_trace_past;
      answer_alike = answer_alike;
      asleep_from_power = asleep_from_power;
      asleep_from_shutdown = asleep_from_shutdown;
    }
