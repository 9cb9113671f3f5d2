-- The bytes of the next word go behind those before it.
use Rattle.std.proofs.Common.{arith, refl, ap, ◌∙◌, ◌*◌, ◌+◌, take, get_or}
use Rattle.std.proofs.lemmas.List.Edits.{sets}
use Rattle.numbers.proofs.Digits.{two_bytes}
use Rattle.lab_shows.specs.Shown.{word_bytes}
use Rattle.lab_shows.proofs.Firsts.{word_in}
use Rattle.lab_shows.proofs.checks.words_crc.Goals as goal

pub loop-i-init : goal.loop-i-init
unfolding word_bytes
loop-i-init c = refl

pub loop-i-preserved : goal.loop-i-preserved
loop-i-preserved c =
    let l = c.loop-i in
    let w = get_or c.args.words.now l.i 0 in
    ap (take (2 * (l.i + 1))) (c.put.ensures ∙ ap (sets l.bytes (2 * l.i)) (c.to_be_bytes.ensures ∙ two_bytes w)) ∙ word_in l.bytes c.args.words.now l.i (omega arith) (omega arith) l.invariant
