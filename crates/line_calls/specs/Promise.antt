-- What is promised of a line's call and answer.
-- Assumes nothing.
use Rattle.std.specs.Prelude.{◌≡◌}
use Rattle.rules.specs.declared.Pod.{Pod}
use Rattle.rules.specs.World.{Stepped, world}
use Rattle.lines.specs.Asked.{Asked}
use Rattle.items.specs.declared.output.Output.{Output}
use Rattle.items.specs.Output.{Written}
use Rattle.answers.specs.Answers.{line_text}
use Rattle.line_calls.specs.declared.Memory.{Memory}
use Rattle.line_calls.specs.declared.Sizes.{Sizes}
use Rattle.line_calls.specs.Calls.{line_step, room_after}
use Rattle.line_calls.specs.Memory.{lent_in, lent_at, behind}

-- the rules' step for a line
abbrev pub step_of : Asked → Pod → Memory → Stepped
step_of a p m = line_step a m.room (world p (lent_in m))

-- the world after a line, the answer room and the text printed are those of the rules; no line is longer than 784 characters
pub record LineAnswered (a : Asked) (p p' : Pod) (m m' : Memory) (o o' : Output) : Type 0 where
  pub world : world p' (lent_in m') ≡ (step_of a p m).world
  pub room : m'.room ≡ room_after a m.room (step_of a p m).told
  pub printed : Written (line_text a (step_of a p m).told) 784 o o'

-- and so they are where each thing is lent at a size; what lies behind it stays
pub record LentAnswered (a : Asked) (p p' : Pod) (s : Sizes) (m m' : Memory) (o o' : Output) : Type 0 where
  pub answered : LineAnswered a p p' (lent_at s m) (lent_at s m') o o'
  pub rest : behind s m' ≡ behind s m
