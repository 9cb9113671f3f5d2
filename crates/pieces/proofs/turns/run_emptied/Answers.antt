-- A turn keeps to the bounds, and leaves one turn fewer.
use Rattle.std.proofs.Common.{arith, length, ap}
use lib.ListN.{length-take}
use Rattle.pieces.proofs.Bounds.{went_bounded, no_more}
use Rattle.pieces.proofs.turns.run_emptied.Goals as goal

pub loop-desk-smaller : goal.loop-desk-smaller
loop-desk-smaller g c = omega (arith, no_more _ _ _ c.next_piece-desk.ensures)

pub loop-desk-preserved : goal.loop-desk-preserved
loop-desk-preserved g c =
    let d = c.loop-desk.invariant.desk in
    let inside = c.gather-cursor.ensures.inside in
    record {
      desk = went_bounded _ _ _ (record { start = omega (arith, inside.start, c.front.ensures.result_value, ap length c.front.ensures.result_value, length-take c.loop-desk.desk.have c.loop-desk.piece); longest = inside.longest; piece = d.piece }) c.next_piece-desk.ensures;
      fine = c.write.ensures.fine;
      room = c.write.ensures.has_room;
      written = c.write.ensures.written;
    }
