-- The characters appended are those of the definition.
use Rattle.std.proofs.Common.{subst, List, ℕ, get_or, ◌∷◌, []}
use Rattle.items.specs.Output.{Written}
use Rattle.items.specs.Printed.{word_line}
use Rattle.items.proofs.output.Output.word_line.Goals as goal

pub returns : goal.returns
unfolding word_line
returns c =
    let l = c.args.letter in
    subst (λ (d : List ℕ). Written (l ∷ 32 ∷ get_or d 0 0 ∷ get_or d 1 0 ∷ get_or d 2 0 ∷ get_or d 3 0 ∷ 10 ∷ []) 7 c.args.self.now c.append.new.self) c.word.ensures c.append.ensures
