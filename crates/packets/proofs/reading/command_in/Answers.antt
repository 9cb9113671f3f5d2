-- `packets::reading::command_in`: the command of an Update's row.
use Rattle.packets.specs.Commands.{code_row, find_in}
use Rattle.packets.specs.Codes.{code_number}
use Rattle.packets.proofs.reading.command_in.Goals as goal

pub returns-in-Update : goal.returns-in-Update
unfolding code_number code_row find_in
returns-in-Update c = rw c.in-Update.is (cc)
