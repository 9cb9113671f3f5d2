-- What a line says, and what it asks: a command that no type holds is refused as the others are.
-- Assumes nothing.
use Prim.Native.Nat.{ℕ}
use mathlib.Core.Path.{◌≡◌, refl, ap, ◌∙◌}
use mathlib.Core.List.{List}
use lib.ListN.{length, take}
use Rattle.rows.proofs.Bool.{split}
use Rattle.airframe.specs.Building.{command_fits}
use Rattle.airframe.proofs.Typed.{outside, typed_wide}
use Rattle.aircraft_lines.specs.declared.Line.{Line}
use Rattle.aircraft_lines.specs.declared.Line.TheVariants as line
use Rattle.airframe.specs.Given.{command_typed}
use Rattle.aircraft_lines.specs.Asked.{Ask, sends, takes, hears, waits, again, other, say_ask, heard_bytes}
use Rattle.items.specs.Printed.{refused_line}
use Rattle.std.specs.Prelude.{Option, Some, None}
use Rattle.items.specs.declared.output.Output.{Output}
use Rattle.aircraft_answers.specs.declared.Underway.{Underway}
use Rattle.aircraft_answers.specs.Spoken.{Way, Spoken, spoken, sent_if, spoken_of}
use Rattle.aircraft_answers.specs.Promise.{Says, Spoke}

-- ---- a line that was read

-- what it is answered: of a command only whether it fits is left to judge
unfoldable pub line_spoken : Option Line → List ℕ → Way → Spoken
line_spoken (Some (line.Send c)) bs w = sent_if (command_fits c) c w
line_spoken (Some line.Outside) bs w = spoken (refused_line 81 20) w
line_spoken (Some (line.Take first form)) bs w = spoken_of (takes first form) w
line_spoken (Some (line.Hear n)) bs w = spoken_of (hears (take n bs)) w
line_spoken (Some line.Wait) bs w = spoken_of waits w
line_spoken (Some line.Again) bs w = spoken_of again w
line_spoken None bs w = spoken_of other w

line-spoken : (a : Ask) (bs : List ℕ) (w : Way) → take (length (heard_bytes a)) bs ≡ heard_bytes a → line_spoken (say_ask a) bs w ≡ spoken_of a w
unfolding say_ask heard_bytes line_spoken spoken_of
line-spoken (sends c) bs w h = split (command_typed c) (λ t. rw (t, typed_wide c t)) (λ f. rw (f, outside c f))
line-spoken (takes first form) bs w h = refl
line-spoken (hears xs) bs w h = rw h
line-spoken waits bs w h = refl
line-spoken again bs w h = refl
line-spoken other bs w h = refl

pub as_asked : (l : Option Line) (bs : List ℕ) (w : Way) (u : Underway) (o o' : Output) → Spoke (line_spoken l bs w) u o o'
    → (a : Ask) → Says a l bs → Spoke (spoken_of a w) u o o'
as_asked l bs w u o o' s a h =
    let e : line_spoken l bs w ≡ spoken_of a w = ap (λ (x : Option Line). line_spoken x bs w) h.said ∙ line-spoken a bs w h.heard in
    rw (← e) s
