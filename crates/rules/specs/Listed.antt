-- The kept list of missing ids, apart from the bound that judges it; what each call leaves of the parameters; and power on, which mends
-- a state that breaks a bound.
-- Assumes nothing.
use Rattle.std.specs.Prelude.{◌≡◌, Bool, true, false, List}
use Rattle.params.specs.declared.Params.{Params}
use Rattle.params.specs.Rules.{missing_of, start_params, stored}
use Rattle.rules.specs.State.{Lent, fresh_pod}
use Rattle.rules.specs.World.{World, Call, power, packet, put, word, lone, samples, is_answered, step, next, final, powered}
use Rattle.rules.specs.History.{Event, nothing, begins, sleeps, updates, writes_parameter, opens_exchange, closes_exchange, hears_acknowledgement, puts, words, touches, event_of, events}
use Rattle.rules.specs.Replies.{report_from}

-- the calls that are handed a state: all but power on
abbrev pub judges_state : Call → Bool
judges_state power = false
judges_state (packet b room) = true
judges_state (put s b) = true
judges_state (word c) = true
judges_state (lone c) = true
judges_state (samples k xs) = true

-- request No. 5, "A state whose list is otherwise gets refusal 3": what is answered has the list that document 01 defines from its marks
-- (that the number is 3 says `RowsExactly`)
abbrev pub ListJudged : Type 0
ListJudged =
    (w : World) (c : Call) → judges_state c ≡ true → is_answered w c ≡ true → w.pod.params.missing ≡ missing_of w.pod.params

-- "keep them right through every call": the list is the one that Status shows by the history, while not initialised too
abbrev pub ListIsHistory : Type 0
ListIsHistory = (l : Lent) (cs : List Call) → (final (powered l) cs).pod.params.missing ≡ (report_from (events (powered l) cs)).ids

-- what happens leaves of the parameters, their marks and the list
abbrev pub params_by : Event → Params → Params
params_by nothing p = p
params_by (begins a f) p = start_params
params_by sleeps p = p
params_by (updates f) p = p
params_by (writes_parameter id v) p = stored p id v
params_by (opens_exchange x) p = p
params_by closes_exchange p = p
params_by (hears_acknowledgement first one) p = p
params_by (puts s b) p = p
params_by (words c) p = p
params_by (touches t l) p = p

-- "Initialise, writes, Update, Shutdown": a power on and an Initialise refill, an accepted write stores, marks and strikes out, and no other
-- call changes any of it; in any world, also one that no calls from power on bring about
abbrev pub ParamsOnly : Type 0
ParamsOnly = (w : World) (c : Call) → (next w c).pod.params ≡ params_by (event_of c (step w c).told) w.pod.params

-- "Fresh from power", whatever the state was
abbrev pub PowerMends : Type 0
PowerMends = (w : World) → is_answered w power ≡ true → (next w power).pod ≡ fresh_pod
