-- The words of the lines that begin with `R`: what an answer means, and what is next.
-- Assumes nothing.
use Rattle.std.specs.Prelude.{ℕ, List, [], ◌∷◌, ◌++◌, map, pos, Option, Some, None}
use Prim.Native.String.{String, [] as none, ◌∷◌ as ◌then◌}
use Prim.Native.Char.{code}
use Rattle.rows.specs.Rows.{Said, refused, gave}
use Rattle.packets.specs.declared.Report.{Report}
use Rattle.items.specs.Characters.{space, bang, dash, newline}
use Rattle.items.specs.Text.{spell}
use Rattle.items.specs.Printed.{decimal}
use Rattle.decimals.specs.Printing.{spelled}
use Rattle.airframe.specs.declared.Step.{Step}
use Rattle.airframe.specs.declared.Step.TheVariants.{Idle, Ended, Again, Lost}
use Rattle.airframe.specs.Reading.{Meant, done, failed, status, value, block}
use Rattle.airframe.specs.Sending.{Outcome}
use Rattle.aircraft_lines.specs.Letters.{letter_r}

-- the characters of a text
abbrev pub characters : String → List ℕ
characters none = []
characters (c then s) = code c ∷ characters s

-- "mode flags priority ordinary request and eight ids, thirteen decimal numbers"
abbrev pub status_numbers : Report → ℕ → List ℕ
status_numbers r q = r.mode ∷ r.flags ∷ r.priority ∷ r.ordinary ∷ q ∷ r.ids

-- "`R done`; `R error ee`; `R status` ..; `R value id v`; `R data` bytes"; "`R !23` .."
unfoldable pub meant_text : Said Meant → List ℕ
meant_text (refused n) = space ∷ bang ∷ decimal n
meant_text (gave done) = characters " done"
meant_text (gave (failed e)) = characters " error" ++ spell (e ∷ [])
meant_text (gave (status r q)) = characters " status" ++ spelled (map pos (status_numbers r q))
meant_text (gave (value id v)) = characters " value" ++ spelled (pos id ∷ v ∷ [])
meant_text (gave (block b)) = characters " data" ++ spell b

-- nothing where no answer was read
abbrev pub read_text : Option (Said Meant) → List ℕ
read_text None = []
read_text (Some m) = meant_text m

-- "`R again`, `R lost`"; "`R -` with nothing on its way"
abbrev pub step_text : Step → List ℕ
step_text Idle = space ∷ dash ∷ []
step_text Ended = []
step_text Again = characters " again"
step_text Lost = characters " lost"

unfoldable pub outcome_text : Outcome → List ℕ
outcome_text o = letter_r ∷ (read_text o.meant ++ (step_text o.step ++ (newline ∷ [])))
