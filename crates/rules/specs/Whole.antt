-- All that the owner asked for, in one record: proofs/Whole.antt has its one value.
-- Assumes nothing.
use Rattle.rules.specs.Demands.{AlwaysAnswered, LowestFirst, RowsExactly, RefusedUnchanged, KeptSound, LoadWhole, LoadCut, ReadWhole, ReadEnds, ReadMoves, TablesOnly, MessageError, StatusWordShows, PortOnly, PlacesOnly, PacketAnswered, ChecksExactly, OpensExactly, Damage, DamageAnswered, ErrorUnchanged, BlocksAreHistory, ReceiveIsHistory, StatusIsHistory, ReadIsWritten, FramesAreHistory, NoTrace, AsFromPower, NoTracePast, AnswerAlike, AsleepFromPower, AsleepFromShutdown, TransferOnly, PortIsHistory, ReadsShown}
use Rattle.rules.specs.Halves.{PipeIsHistory, HandedIsHistory, PipeOnly}
use Rattle.rules.specs.Kept.{AwakeIsHistory, FieldsAreHistory, ExchangeIsHistory, ParamsAreHistory, MarksAreHistory, DropGuarded, FreshIs}
use Rattle.rules.specs.Listed.{ListJudged, ListIsHistory, ParamsOnly, PowerMends}
use Rattle.rules.specs.Said.{SaysDone}

pub record Whole : Type 0 where
  -- 1. each call is answered, or refused by a number, and a refused call changes nothing
  pub always_answered : AlwaysAnswered
  pub lowest_first : LowestFirst
  pub rows_exactly : RowsExactly
  pub refused_unchanged : RefusedUnchanged
  pub kept_sound : KeptSound
  pub says_done : SaysDone
  pub list_judged : ListJudged
  pub power_mends : PowerMends
  -- 2. answers, tables, blocks and frames are exactly the papers'
  pub load_whole : LoadWhole
  pub load_cut : LoadCut
  pub read_whole : ReadWhole
  pub read-ends : ReadEnds
  pub read_moves : ReadMoves
  pub tables_only : TablesOnly
  pub message_error : MessageError
  pub status_word_shows : StatusWordShows
  pub port_only : PortOnly
  pub places-only : PlacesOnly
  pub transfer_only : TransferOnly
  pub port_is_history : PortIsHistory
  pub reads_shown : ReadsShown
  pub packet_answered : PacketAnswered
  pub checks_exactly : ChecksExactly
  pub opens_exactly : OpensExactly
  pub damage : Damage
  pub damage_answered : DamageAnswered
  pub error_unchanged : ErrorUnchanged
  pub blocks_are_history : BlocksAreHistory
  pub receive_is_history : ReceiveIsHistory
  pub status_is_history : StatusIsHistory
  pub read_is_written : ReadIsWritten
  pub pipe_is_history : PipeIsHistory
  pub handed_is_history : HandedIsHistory
  pub pipe_only : PipeOnly
  pub frames_are_history : FramesAreHistory
  -- and the state between them is the history's, where no answer shows it too
  pub awake_is_history : AwakeIsHistory
  pub fields_are_history : FieldsAreHistory
  pub exchange_is_history : ExchangeIsHistory
  pub params_are_history : ParamsAreHistory
  pub marks_are_history : MarksAreHistory
  pub drop_guarded : DropGuarded
  pub fresh_is : FreshIs
  pub list_is_history : ListIsHistory
  pub params_only : ParamsOnly
  -- 3. nothing of the past shows after an accepted Initialise, and nothing of parameters, tables and blocks while asleep
  pub no_trace : NoTrace
  pub as_from_power : AsFromPower
  pub no_trace_past : NoTracePast
  pub answer_alike : AnswerAlike
  pub asleep_from_power : AsleepFromPower
  pub asleep_from_shutdown : AsleepFromShutdown
