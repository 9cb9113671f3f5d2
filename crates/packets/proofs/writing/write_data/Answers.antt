-- `packets::writing::write_data`: the law of every answer, at its body.
use Rattle.std.proofs.Common.{refl, arith}
use Rattle.packets.specs.Answers.{data_answer}
use Rattle.packets.proofs.Room.{answered}
use Rattle.packets.proofs.writing.write_data.Goals as goal

pub returns : goal.returns
unfolding data_answer
returns c =
    answered c.args.room.now c.args.first 0x01 c.args.block.now _ _ _ _ 258 _
    c.put.ensures refl c.copy.ensures c.close.ensures (omega arith) (omega arith)
