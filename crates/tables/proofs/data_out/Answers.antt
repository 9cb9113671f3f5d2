-- `tables::data_out`: the open read lies within its table.
use Rattle.tables.proofs.Limits.{read_open}
use Rattle.tables.proofs.data_out.Goals as goal

pub next_read-w-requires : goal.next_read-w-requires
next_read-w-requires c = (read_open _ _ _ _ c.requires c.in-Read.is).0

pub word_of-requires : goal.word_of-requires
word_of-requires c = read_open _ _ _ _ c.requires c.in-Read.is
