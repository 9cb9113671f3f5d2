-- Lines cut from what is read in pieces.
-- Assumes nothing.
use Rattle.std.specs.Prelude.{◌&&◌, cond, List, [], ◌∷◌, ℕ, suc, ◌+◌, ◌-◌, ◌≤◌, ltb, leb, eqb, length, take, drop, Option, Some, None}
use Rattle.std.proofs.lemmas.List.Edits.{sets}
use Rattle.items.specs.Characters.{newline}
use Rattle.lines.specs.declared.Cursor.{Cursor}
use Rattle.lines.specs.declared.Cut.{Cut}
use Rattle.lines.specs.declared.Found.{Found}
use Rattle.lines.specs.declared.Found.TheVariants.{Here, Held, Long}

-- how many characters stand before the first newline; all of them where there is none
unfoldable pub before : List ℕ → ℕ
before [] = 0
before (c ∷ cs) = cond (eqb c newline) 0 (suc (before cs))

-- a limit of these programs and not of the pod: the longest line is `P` and 65,535 bytes of three characters each; a longer one, so a
-- packet of 65,536 bytes and more, prints `?`
abbrev pub longest : ℕ
longest = 196606

-- a line of which so many characters came, and then so many more: 196607 says of any longer line that it is longer
unfoldable pub held_of : ℕ → ℕ → ℕ
held_of held more = cond (leb (held + more) longest) (held + more) 196607

-- the characters are kept while the line is not too long
unfoldable pub kept_of : List ℕ → ℕ → List ℕ → List ℕ
kept_of line held part = cond (leb (held + length part) longest) (sets line held part) line

-- a line that was held
unfoldable pub last_of : ℕ → Found
last_of held = cond (ltb longest held) Long (Held held)

-- where the line ends that starts at the cursor: at its newline, or with the piece
abbrev pub end_of : List ℕ → Cursor → ℕ
end_of piece c = c.from + before (drop c.from piece)

-- the line's characters in the piece
abbrev pub part_of : List ℕ → Cursor → List ℕ
part_of piece c = take (end_of piece c - c.from) (drop c.from piece)

abbrev pub cut_at : Option Found → ℕ → ℕ → Cut
cut_at f from held = record { found = f; cursor = record { from = from; held = held } }

-- a line whole in the piece is a part of it; a line whose end is not there is held; and so is one whose start was held, to its end
unfoldable pub cut_of : List ℕ → Cursor → Cut
cut_of piece c =
    cond (ltb (end_of piece c) (length piece) && eqb c.held 0) (cut_at (Some (Here c.from (end_of piece c))) (end_of piece c + 1) 0)
    (cond (eqb (end_of piece c) (length piece)) (cut_at None (end_of piece c) (held_of c.held (length (part_of piece c))))
    (cut_at (Some (last_of (held_of c.held (length (part_of piece c))))) (end_of piece c + 1) 0))

-- the memory of what is held: a line whole in the piece leaves it
unfoldable pub held_line : List ℕ → Cursor → List ℕ → List ℕ
held_line piece c line =
    cond (ltb (end_of piece c) (length piece) && eqb c.held 0) line (kept_of line c.held (part_of piece c))

-- what is found lies in the piece, or is not too long
abbrev pub FoundIn : Found → ℕ → Type 0
FoundIn (Here a b) n = (a ≤ b) × (b ≤ n)
FoundIn (Held k) n = k ≤ longest
FoundIn Long n = Unit {0}

-- the text of a line that was found: a part of the piece, or what is held. A line that is too long, and one that
-- goes on, is read as an empty one
unfoldable pub text_of : Option Found → List ℕ → List ℕ → List ℕ
text_of (Some (Here from end)) piece line = take (end - from) (drop from piece)
text_of (Some (Held n)) piece line = take n line
text_of (Some Long) piece line = []
text_of None piece line = []
