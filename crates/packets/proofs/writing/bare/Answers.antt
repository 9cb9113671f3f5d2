-- `packets::writing::bare`: the law of an answer without a body.
use Rattle.std.proofs.Common.{arith}
use Rattle.packets.specs.Codes.{code_number}
use Rattle.packets.proofs.Room.{bare-answered}
use Rattle.packets.proofs.writing.bare.Goals as goal

pub returns : goal.returns
returns c = bare-answered c.args.room.now (code_number c.args.code) 0x01 _ _ _ (cc) c.close.ensures (omega arith)
