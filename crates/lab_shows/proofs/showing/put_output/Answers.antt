-- The two numbers, and the check.
use Rattle.std.proofs.Common.{arith, ap, ℕ, [], ◌∷◌}
use Rattle.items.proofs.Behind.{both, renamed}
use Rattle.lab_shows.specs.Shown.{spelled_words, shown_output}
use Rattle.lab_shows.proofs.showing.put_output.Goals as goal

pub returns : goal.returns
unfolding shown_output
returns c =
    both {m = 42} {n = 5} (rw (c.from.ensures, c.from-2.ensures) at c.put_numerals.ensures) (renamed _ 5 (ap (λ (n : ℕ). spelled_words (n ∷ [])) c.hand_crc.ensures) (omega arith) c.put_words.ensures)
