-- `packets::writing::with_fields`: the law of every answer, at its body.
use Rattle.std.proofs.Common.{refl, arith}
use Rattle.packets.specs.Answers.{field_bytes}
use Rattle.packets.specs.Codes.{code_number}
use Rattle.packets.proofs.Bodies.{field_bytes-length}
use Rattle.packets.proofs.Room.{answered}
use Rattle.packets.proofs.writing.with_fields.Goals as goal

pub returns : goal.returns
returns c =
    answered c.args.room.now (code_number c.args.code) 0x01 (field_bytes c.args.f) _ _ _ _ 23 _
    (cc) refl c.fields_body.ensures c.close.ensures (omega (arith, field_bytes-length c.args.f)) (omega arith)
