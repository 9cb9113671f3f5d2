-- The letter, what was read, the step and the newline.
use Rattle.items.proofs.Behind.{both}
use Rattle.airframe.specs.Sending.{heard_said}
use Rattle.aircraft_answers.specs.Words.{outcome_text}
use Rattle.aircraft_answers.proofs.outcomes.put_outcome.Goals as goal

pub returns : goal.returns
unfolding outcome_text heard_said
returns c = both c.append.ensures (both c.put_reply.ensures (both c.put_step.ensures c.append-2.ensures))
