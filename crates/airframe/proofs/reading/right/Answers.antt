-- The same tests, by the number of bytes that is due.
use mathlib.Core.Path.{sym}
use Rattle.packets.proofs.Checks.{coded}
use Rattle.airframe.proofs.Due.{tested, cut_short}
use Rattle.airframe.proofs.reading.right.Goals as goal

pub returns-then-answer-lt5 : goal.returns-then-answer-lt5
returns-then-answer-lt5 c = sym (cut_short _ _ c.if-answer-lt5.true)

pub returns : goal.returns
returns c = rw (c.answer-due.ensures, c.crc_right.ensures, c.from.ensures) (sym (tested _ _ (coded c.args.code)))
