-- What is printed for each result.
-- Assumes nothing.
use Rattle.std.proofs.Common.{◌≡◌, ℕ, ◌+◌, ◌<◌, List, ◌++◌, length, refl, ap, ◌∙◌, arith, length-append, append-nil}
use lib.ListN.{drop_of_length-le}
use Rattle.std.proofs.lemmas.List.Edits.{sets}
use lib.Seq.{sets-eq}
use Rattle.rules.specs.declared.Refusal.{Refusal}
use Rattle.rules.specs.declared.Refusal.TheVariants.{Room, Size, State, Count, Over, Asleep, Full, Busy, Eight}
use Rattle.rules.specs.Refusals.{Giving, refusal_number}
use Rattle.rules.specs.World.{frames_in}
use Rattle.rows.specs.Rows.{Said, refused, gave}
use Rattle.frames.specs.declared.Frames.{Frames}
use Rattle.lines.specs.Letters.{letter_a}
use Rattle.answers.specs.Answers.{listing, said_line}
use Rattle.items.proofs.Lists.{sets_join}

-- a refusal's number has two digits at the most
pub number-small : (why : Refusal) → refusal_number why < 100
unfolding refusal_number
number-small Room = omega arith
number-small Size = omega arith
number-small State = omega arith
number-small Count = omega arith
number-small Over = omega arith
number-small Asleep = omega arith
number-small Full = omega arith
number-small Busy = omega arith
number-small Eight = omega arith

-- two runs of eight fill sixteen places
pub both_eight : (l a b : List ℕ) → length l ≡ 16 → length a ≡ 8 → length b ≡ 8 → sets (sets l 0 a) 8 b ≡ a ++ b
both_eight l a b k h j =
    let n : length (a ++ b) ≡ 16 = omega (arith, length-append a b) in
    sets_join a b l 0 8 (omega arith)
    ∙ sets-eq (a ++ b) l 0 (omega arith)
    ∙ ap (λ (x : List ℕ). (a ++ b) ++ x) (drop_of_length-le l {i = 0 + length (a ++ b)} (omega arith))
    ∙ append-nil (a ++ b)

-- the bytes of two frames, however a call went that lists them
pub frames_said : (s : Said Giving) (f : Frames) (b : List ℕ) → b ≡ f.an03 ++ f.an47
    → said_line (listing letter_a) s b ≡ said_line (listing letter_a) s (frames_in s f)
unfolding said_line
frames_said (refused n) f b e = refl
frames_said (gave g) f b e = ap (said_line (listing letter_a) (gave g)) e
