-- When the aircraft sends again, and when it reports the pod lost.
-- Assumes nothing.
use Rattle.std.specs.Prelude.{ℕ, Bool, true, false, cond, List, [], ◌∷◌, eqb, Option, Some, None, Result}
use Rattle.rows.specs.Rows.{Said, refused, gave}
use Rattle.airframe.specs.declared.Left.{Left}
use Rattle.airframe.specs.declared.Left.TheVariants.{Nought, One, Two, Three}
use Rattle.airframe.specs.declared.Sending.{Sending}
use Rattle.airframe.specs.declared.Sending.TheVariants.{Over, Awaiting}
use Rattle.airframe.specs.declared.Step.{Step}
use Rattle.airframe.specs.declared.Step.TheVariants.{Idle, Ended, Again, Lost}
use Rattle.airframe.specs.declared.Refusal.{Refusal}
use Rattle.airframe.specs.declared.Meaning.{Meaning}
use Rattle.airframe.specs.declared.Heard.{Heard}
use Rattle.airframe.specs.Reading.{Meant, done, failed, status, value, block, read_as, meaning_said}

-- no reply, or an answer's bytes
pub data Came : Type 0 where
  silence : Came
  answer : List ℕ → Came

abbrev pub is_over : Sending → Bool
is_over Over = true
is_over (Awaiting code left) = false

-- one send, and "up to three times" more
unfoldable pub sent : ℕ → Sending
sent code = Awaiting code Three

-- "After no reply, or an answer with error 0x01"; a wrong answer "counts as no reply"
unfoldable pub as_no_reply : Said Meant → Bool
as_no_reply (refused n) = true
as_no_reply (gave done) = false
as_no_reply (gave (failed e)) = eqb e 0x01
as_no_reply (gave (status r q)) = false
as_no_reply (gave (value id v)) = false
as_no_reply (gave (block b)) = false

unfoldable pub unanswered : ℕ → Came → Bool
unanswered code silence = true
unanswered code (answer a) = as_no_reply (read_as code a)

-- a send is used up: "sends again up to three times and then reports the pod lost"
abbrev pub step_left : Left → Step
step_left Nought = Lost
step_left One = Again
step_left Two = Again
step_left Three = Again

abbrev pub fewer : ℕ → Left → Sending
fewer code Nought = Over
fewer code One = Awaiting code Nought
fewer code Two = Awaiting code One
fewer code Three = Awaiting code Two

-- what is next, what was read, and what is on its way after it
pub record Outcome : Type 0 where
  pub step : Step
  pub meant : Option (Said Meant)
  pub sending : Sending

abbrev pub outcome : Step → Option (Said Meant) → Sending → Outcome
outcome s m k = record { step = s; meant = m; sending = k }

abbrev pub read_in : ℕ → Came → Option (Said Meant)
read_in code silence = None
read_in code (answer a) = Some (read_as code a)

-- with nothing on its way a reply is not read and changes nothing; else it uses up a send or ends the exchange
unfoldable pub heard_of : Sending → Came → Outcome
heard_of Over x = outcome Idle None Over
heard_of (Awaiting code left) x =
    cond (unanswered code x) (outcome (step_left left) (read_in code x) (fewer code left))
    (outcome Ended (read_in code x) Over)

-- what the code's outcome stands for, beside the answer that it heard
abbrev pub reply_said : Option (Result Meaning Refusal) → List ℕ → Option (Said Meant)
reply_said None a = None
reply_said (Some m) a = Some (meaning_said m a)

unfoldable pub heard_said : Heard → List ℕ → Outcome
heard_said h a = outcome h.step (reply_said h.reply a) h.sending

-- ---- over a list of replies

unfoldable pub steps_of : Sending → List Came → List Step
steps_of s [] = []
steps_of s (x ∷ xs) = (heard_of s x).step ∷ steps_of (heard_of s x).sending xs
