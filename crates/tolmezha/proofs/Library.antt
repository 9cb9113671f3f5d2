-- The statements of the library, all of them.
-- Assumes nothing.
use Rattle.tolmezha.specs.Statements.{Library}
use Rattle.tolmezha.proofs.Meanings.{numbers_apart}
use Rattle.tolmezha.proofs.Same.{same_definition, library_is_read, library_refuses}
use Rattle.tolmezha.proofs.Placed.{library_reads}
use Rattle.tolmezha.proofs.Kept.{none_is_kept, steps_follow, sent_is}
use Rattle.tolmezha.proofs.Computed.{library_shown}

pub library : Library
library =
    record {
      numbers_apart = numbers_apart;
      same_definition = same_definition;
      is_read = library_is_read;
      refuses = library_refuses;
      reads = library_reads;
      sent_is = sent_is;
      none_is_kept = none_is_kept;
      steps_follow = steps_follow;
      shown = library_shown;
    }
