use Rattle.std.proofs.Common.{◌*◌, drop}
use Rattle.items.proofs.Behind.{Left}
use Rattle.lab_shows.specs.Shown.{spelled_words}
use Rattle.lab_shows.proofs.runs.put_words.Given as goal

-- what is left of the words goes behind what is written
abbrev pub invariant-loop-word : goal.invariant-loop-word
invariant-loop-word l = Left (spelled_words l.words) (spelled_words (drop l.word-index l.words)) (5 * l.word-index) l.initial.out l.out
