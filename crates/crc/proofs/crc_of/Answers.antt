-- `crc::crc_of`: eight bytes more, two more, and the last.
use Rattle.std.proofs.Common.{◌≡◌, ◌+◌, ◌*◌, ◌/◌, length, arith, rules}
use Rattle.crc.specs.Crc.{crc_of}
use Rattle.std.proofs.lemmas.Grind.{common_steps}
use Rattle.crc.proofs.Fold.{fold, started, eight_come, two_come, all_come}
use Rattle.crc.proofs.crc_of.Goals as goal

pub loop-word-init : goal.loop-word-init
unfolding crc_of
loop-word-init c = (omega arith, rw started)

pub loop-word-preserved : goal.loop-word-preserved
loop-word-preserved c =
    eight_come c.loop-word.s c.from_be_bytes.result c.loop-word.word-index c.args.bytes.now c.as_chunks.result.0.now
    c.loop-word.invariant.0 (search rules) (search rules) c.as_chunks.ensures.front (omega arith) c.from_be_bytes.ensures c.loop-word.invariant.1

pub loop-pair-init : goal.loop-pair-init
unfolding fold
loop-pair-init c =
    let last : c.loop-word.word-index ≡ length c.args.bytes.now / 8 = omega arith in
    let none : length c.args.bytes.now / 8 * 8 + 0 ≡ length c.args.bytes.now / 8 * 8 = omega arith in
    rw (c.fold_of-c.ensures, none) (rw last at c.loop-word.invariant.1)

pub loop-pair-preserved : goal.loop-pair-preserved
loop-pair-preserved c =
    rw c.two-c.ensures
    (two_come c.loop-pair.c c.from_be_bytes-in-loop-pair.result (length c.args.bytes.now / 8 * 8) c.loop-pair.pair-index c.args.bytes.now c.as_chunks.result.1.now c.as_chunks-2.result.0.now
    (search rules) c.as_chunks.ensures.back c.as_chunks-2.ensures.front (omega arith) c.from_be_bytes-in-loop-pair.ensures c.loop-pair.invariant)

pub returns-in-None : goal.returns-in-None
returns-in-None c =
    all_come c.loop-pair.c (length c.args.bytes.now / 8 * 8 + c.loop-pair.pair-index * 2) c.args.bytes.now (grind (arith, common_steps)) c.loop-pair.invariant
