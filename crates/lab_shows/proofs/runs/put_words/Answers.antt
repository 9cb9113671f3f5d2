-- Each word's item goes behind those before it.
use Rattle.std.proofs.Common.{arith, subst, List, ℕ, get_or, ◌∷◌, []}
use Rattle.hexes.specs.Digits.{word_digits}
use Rattle.items.specs.Output.{Written}
use Rattle.items.proofs.Behind.{one_more, whole}
use Rattle.lab_shows.proofs.Spell.{words_on, words_end}
use Rattle.lab_shows.proofs.runs.put_words.Goals as goal

pub append-requires : goal.append-requires
append-requires c = omega (arith, c.loop-word.invariant.place, c.loop-word.invariant.short, c.loop-word.invariant.room)

pub loop-word-preserved : goal.loop-word-preserved
loop-word-preserved c =
    let l = c.loop-word in
    let ws = c.args.words.now in
    let item : Written (32 ∷ word_digits (get_or ws l.word-index 0)) 5 l.out c.append.new.self =
    subst (λ (d : List ℕ). Written (32 ∷ get_or d 0 0 ∷ get_or d 1 0 ∷ get_or d 2 0 ∷ get_or d 3 0 ∷ []) 5 l.out c.append.new.self) c.word.ensures c.append.ensures in
    one_more _ _ (words_on ws l.word-index (omega arith)) (omega arith) l.invariant item

pub returns : goal.returns
returns c = whole _ (words_end c.args.words.now c.loop-word.word-index (omega arith)) (omega arith) c.loop-word.invariant
