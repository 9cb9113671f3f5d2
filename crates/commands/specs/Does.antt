-- What is promised of a command that is obeyed: its definition in `rules`, whatever is lent.
-- Assumes nothing.
use Rattle.std.specs.Prelude.{◌≡◌, Bool, true, false, MatchResult, Result, Ok, Err}
use Rattle.rows.specs.Rows.{out}
use Rattle.packets.specs.declared.Command.{Command}
use Rattle.packets.specs.declared.Command.TheVariants as command
use Rattle.rules.specs.declared.Pod.{Pod}
use Rattle.rules.specs.declared.Reply.{Reply}
use Rattle.rules.specs.declared.Failure.{Failure}
use Rattle.rules.specs.declared.Failure.TheVariants.{Asleep}
use Rattle.rules.specs.declared.Refusal.{Refusal}
use Rattle.rules.specs.declared.Refusal.TheVariants.{State}
use Rattle.rules.specs.State.{Lent, sound_pod}
use Rattle.rules.specs.Obey.{reply_said, obey_of}

-- the check of a pod that is to be awake: the failure is that it is asleep
abbrev pub Awake : Result (Unit {0}) Failure → Pod → Type 0
Awake r p = MatchResult r (λ _. p.initialised ≡ true) (λ f. (f ≡ Asleep) × (p.initialised ≡ false))

-- the row of a pod whose state is to be within its bounds: the refusal is of the state
abbrev pub Judged : Result (Unit {0}) Refusal → Pod → Type 0
Judged r p = MatchResult r (λ _. sound_pod p ≡ true) (λ why. (why ≡ State) × (sound_pod p ≡ false))

-- a command that leaves all that is lent
abbrev pub Does : Result Reply Failure → Pod → Command → Pod → Type 0
Does r q c p = (l : Lent) → out (reply_said r) q l ≡ obey_of c l p

-- whether a command passed its checks
abbrev pub passed : Result Reply Failure → Bool
passed (Ok r) = true
passed (Err f) = false

-- an accepted Initialise puts the tables to their starts, and no other command does
abbrev pub restarts : Command → Result Reply Failure → Bool
restarts (command.Initialise f) r = passed r
restarts command.Status r = false
restarts (command.Update f) r = false
restarts (command.Write id v) r = false
restarts (command.Read id) r = false
restarts command.Priority r = false
restarts command.Data r = false
restarts command.Shutdown r = false
