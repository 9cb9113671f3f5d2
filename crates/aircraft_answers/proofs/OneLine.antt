-- Whatever is asked, what is printed is one line: a newline at its end, and no other.
-- Assumes nothing.
use Prim.Native.Nat.{ℕ, suc}
use native.Mathlib.Omega.{arith}
use mathlib.Core.Path.{◌≡◌}
use mathlib.Core.Bool.{◌&&◌}
use mathlib.Core.List.{List, [], ◌∷◌, ◌++◌, append_assoc, map}
use Rattle.std.specs.Prelude.{Option, Some, None}
use lib.IntN.{pos}
use lib.ListN.{length}
use Rattle.rows.specs.Rows.{Said, refused, gave}
use Rattle.rows.proofs.Bool.{by-test}
use Rattle.items.specs.Text.{spell}
use Rattle.items.proofs.Inked.{Inked, inked_both, spell_inked, decimal_inked}
use Rattle.decimals.specs.Printing.{spelled}
use Rattle.decimals.proofs.Spell.{spelled_inked}
use Rattle.lines.specs.Cut.{before}
use Rattle.lines.proofs.OneLine.{ended, bytes_one, bare_one, refused_one}
use Rattle.airframe.specs.declared.Step.{Step}
use Rattle.airframe.specs.declared.Step.TheVariants.{Idle, Ended, Again, Lost}
use Rattle.airframe.specs.Building.{command_fits, command_wide, first_fits}
use Rattle.airframe.specs.Reading.{Meant, done, failed, status, value, block}
use Rattle.airframe.specs.Sending.{is_over, Outcome, silence, answer, heard_of}
use Rattle.aircraft_lines.specs.Asked.{sends, takes, hears, waits, again, other}
use Rattle.aircraft_answers.specs.Words.{characters, status_numbers, meant_text, read_text, step_text, outcome_text}
use Rattle.aircraft_answers.specs.Spoken.{Spoken, spoken_of}
use Rattle.aircraft_answers.specs.Statements.{OneLine}

-- one line
abbrev Single : List ℕ → Type 0
Single t = suc (before t) ≡ length t

meant_inked : (m : Said Meant) → Inked (meant_text m)
unfolding meant_text
meant_inked (refused n) = (omega arith, (omega arith, decimal_inked n))
meant_inked (gave done) = omega arith
meant_inked (gave (failed e)) = inked_both (characters " error") (spell (e ∷ [])) (omega arith) (spell_inked (e ∷ []))
meant_inked (gave (status r q)) = inked_both (characters " status") (spelled (map pos (status_numbers r q))) (omega arith) (spelled_inked (map pos (status_numbers r q)))
meant_inked (gave (value id v)) = inked_both (characters " value") (spelled (pos id ∷ v ∷ [])) (omega arith) (spelled_inked (pos id ∷ v ∷ []))
meant_inked (gave (block b)) = inked_both (characters " data") (spell b) (omega arith) (spell_inked b)

read_inked : (m : Option (Said Meant)) → Inked (read_text m)
read_inked None = tt
read_inked (Some m) = meant_inked m

step_inked : (s : Step) → Inked (step_text s)
step_inked Idle = omega arith
step_inked Ended = tt
step_inked Again = omega arith
step_inked Lost = omega arith

outcome_one : (o : Outcome) → Single (outcome_text o)
unfolding outcome_text
outcome_one o =
    let r = read_text o.meant in
    let s = step_text o.step in
    rw (← append_assoc r s (10 ∷ [])) (ended (82 ∷ (r ++ s)) (omega arith, inked_both r s (read_inked o.meant) (step_inked o.step)))

-- the first newline is the last character
pub one_line : OneLine
unfolding spoken_of
one_line (sends c) w =
    by-test (λ (s : Spoken). Single s.text) (command_wide c && command_fits c) (λ e. bytes_one 80 (omega arith) _) (λ e. refused_one 81 (omega arith) 20)
one_line (takes first form) w = by-test (λ (s : Spoken). Single s.text) (first_fits first) (λ e. bytes_one 80 (omega arith) _) (λ e. refused_one 89 (omega arith) 20)
one_line (hears bs) w = outcome_one (heard_of w.sending (answer bs))
one_line waits w = outcome_one (heard_of w.sending silence)
one_line again w = by-test Single (is_over w.sending) (λ e. ended (78 ∷ 32 ∷ 45 ∷ []) (omega arith)) (λ e. bytes_one 80 (omega arith) w.bytes)
one_line other w = bare_one 63 (omega arith)
