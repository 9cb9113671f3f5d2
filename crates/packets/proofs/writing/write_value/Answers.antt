-- `packets::writing::write_value`: the law of every answer, at its body.
use Rattle.std.proofs.Common.{◌≡◌, refl, arith, rules}
use Rattle.std.specs.Int.{w32, cast_signed, cast_unsigned}
use Rattle.packets.specs.Answers.{value_body, value_answer}
use Rattle.packets.proofs.Bodies.{value_body-length}
use Rattle.packets.proofs.Room.{answered}
use Rattle.packets.proofs.writing.write_value.Goals as goal

pub returns : goal.returns
unfolding value_answer
returns c =
    let value = c.args.value in
    let back : cast_signed w32 (cast_unsigned w32 value) ≡ value = search rules in
    answered c.args.room.now c.args.first 0x01 (value_body c.args.id value) _ _ _ _ 7 _
    c.put.ensures refl (rw back at c.value_body.ensures) c.close.ensures (omega (arith, value_body-length c.args.id value)) (omega arith)
