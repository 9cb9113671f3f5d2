-- The theorem of both ends: all its statements.
-- Assumes nothing.
use Rattle.both_ends.specs.Ends.{BothEnds}
use Rattle.both_ends.proofs.MeantRead.{meant_is_read}
use Rattle.both_ends.proofs.Exchanged.{exchange_is_read}
use Rattle.both_ends.proofs.Apart.{told-apart}
use Rattle.both_ends.proofs.Bounds.{bounds_shared}

pub both_ends : BothEnds
both_ends = record { meant_is_read = meant_is_read; exchange_is_read = exchange_is_read; told-apart = told-apart; bounds_shared = bounds_shared }
