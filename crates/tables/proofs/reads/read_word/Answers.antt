-- `tables::reads::read_word`: behind the header come the table's words.
use Rattle.std.proofs.Common.{◌≤◌, rules}
use Rattle.tables.proofs.Reading.{read_data}
use Rattle.tables.proofs.reads.read_word.Goals as goal

pub returns-in_default : goal.returns-in_default
returns-in_default c =
    let far : 3 ≤ c.args.k = search rules in
    cc (read_data c.args.h c.args.at c.args.from.now c.args.k far)
