-- `packets::writing::write_status`: the law of every answer, at its body.
use Rattle.std.proofs.Common.{◌≡◌, length, refl, arith, rules}
use Rattle.packets.specs.Answers.{status_body, status_answer}
use Rattle.packets.proofs.Bodies.{status_body-length}
use Rattle.packets.proofs.Room.{answered}
use Rattle.packets.proofs.writing.write_status.Goals as goal

pub returns : goal.returns
unfolding status_answer
returns c =
    -- a report has eight ids
    let eight : length c.args.report.ids ≡ 8 = search rules in
    answered c.args.room.now c.args.first 0x01 (status_body c.args.report) _ _ _ _ 20 _
    c.put.ensures refl c.status_body.ensures c.close.ensures (omega (arith, status_body-length c.args.report eight)) (omega arith)
