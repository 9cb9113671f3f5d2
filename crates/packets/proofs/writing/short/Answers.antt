-- `packets::writing::short`: the law of every answer, at a body of one byte.
use Rattle.std.proofs.Common.{[], ◌∷◌, refl, arith}
use Rattle.packets.proofs.Room.{answered}
use Rattle.packets.proofs.writing.short.Goals as goal

pub returns : goal.returns
returns c =
    answered c.args.room.now c.args.first c.args.second (c.args.third ∷ []) _ _ _ _ 3 _
    c.put.ensures refl c.put-2.ensures c.close.ensures refl (omega arith)
