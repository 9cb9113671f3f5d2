-- Request No. 5, by computation: the list of missing ids that is kept, right and wrong by the marks, and what calls leave of it.
-- Assumes nothing.
use Rattle.std.specs.Prelude.{ℕ, false, List, [], ◌∷◌, ◌++◌, map, ◌≡◌, eqb, pos, get_or, replicate}
use Rattle.blocks.specs.declared.Store.TheVariants.{Priority}
use Rattle.packets.specs.declared.Fields.{Fields}
use Rattle.packets.specs.declared.Command.{Command}
use Rattle.packets.specs.declared.Command.TheVariants as asked
use Rattle.packets.specs.Answers.{command_bytes}
use Rattle.rules.specs.declared.Pod.{Pod}
use Rattle.rules.specs.State.{fresh_fields, with_params}
use Rattle.rules.specs.Families.{command, data_in, data_out, status, byte, timeout, packet_out, taken, deadline, pipe}
use Rattle.rules.specs.World.{World, with_pod, Call, power, packet, put, word, lone, samples, step, next, final}
use Rattle.rules.specs.Demands.{just_powered}
use Rattle.examples.specs.Shown.{just_initialised, ComputedLine, line, AsExpected}
use Rattle.examples.specs.Edges.{refusal_in, refusals_in, judges, judged_awake, judged_asleep}
use Rattle.examples.specs.Bounds.{bent, asleep}

-- the list that is kept
abbrev pub list_in : World → List ℕ
list_in w = w.pod.params.missing

-- "the asked parameters .., rising, then zeros": nothing is written, all is written
abbrev pub all_missing : List ℕ
all_missing = 1 ∷ 2 ∷ 3 ∷ 6 ∷ 7 ∷ 0 ∷ 0 ∷ 0 ∷ []

abbrev pub none_missing : List ℕ
none_missing = 0 ∷ 0 ∷ 0 ∷ 0 ∷ 0 ∷ 0 ∷ 0 ∷ 0 ∷ []

-- ---- "A state whose list is otherwise gets refusal 3."

-- a pod's written marks, 1 for marked, and its list
abbrev pub marking : List ℕ → List ℕ → Pod → Pod
marking marks l p = with_params (record { values = p.params.values; written = map (λ (n : ℕ). eqb n 1) marks; missing = l }) p

-- nothing is marked
abbrev pub unmarked : List ℕ → Pod → Pod
unmarked l = marking (replicate 12 0) l

-- no value at its start, and nothing marked
abbrev pub elsewhere : List ℕ → Pod → Pod
elsewhere l p =
    with_params (record { values = map pos (0 ∷ 11000 ∷ 100 ∷ 40 ∷ 1 ∷ 0 ∷ 3 ∷ 7 ∷ 1 ∷ 1 ∷ 1 ∷ 500 ∷ []); written = replicate 12 false; missing = l }) p

-- the right list
abbrev pub rightly : List (Pod → Pod)
rightly =
    unmarked all_missing
    -- by the marks, whatever the values are
    ∷ elsewhere all_missing
    -- by one mark each: 1, 2, 3, 6 and 7
    ∷ marking (1 ∷ 0 ∷ 0 ∷ 0 ∷ 0 ∷ 0 ∷ 0 ∷ 0 ∷ 0 ∷ 0 ∷ 0 ∷ 0 ∷ []) (2 ∷ 3 ∷ 6 ∷ 7 ∷ 0 ∷ 0 ∷ 0 ∷ 0 ∷ [])
    ∷ marking (0 ∷ 1 ∷ 0 ∷ 0 ∷ 0 ∷ 0 ∷ 0 ∷ 0 ∷ 0 ∷ 0 ∷ 0 ∷ 0 ∷ []) (1 ∷ 3 ∷ 6 ∷ 7 ∷ 0 ∷ 0 ∷ 0 ∷ 0 ∷ [])
    ∷ marking (0 ∷ 0 ∷ 1 ∷ 0 ∷ 0 ∷ 0 ∷ 0 ∷ 0 ∷ 0 ∷ 0 ∷ 0 ∷ 0 ∷ []) (1 ∷ 2 ∷ 6 ∷ 7 ∷ 0 ∷ 0 ∷ 0 ∷ 0 ∷ [])
    ∷ marking (0 ∷ 0 ∷ 0 ∷ 0 ∷ 0 ∷ 1 ∷ 0 ∷ 0 ∷ 0 ∷ 0 ∷ 0 ∷ 0 ∷ []) (1 ∷ 2 ∷ 3 ∷ 7 ∷ 0 ∷ 0 ∷ 0 ∷ 0 ∷ [])
    ∷ marking (0 ∷ 0 ∷ 0 ∷ 0 ∷ 0 ∷ 0 ∷ 1 ∷ 0 ∷ 0 ∷ 0 ∷ 0 ∷ 0 ∷ []) (1 ∷ 2 ∷ 3 ∷ 6 ∷ 0 ∷ 0 ∷ 0 ∷ 0 ∷ [])
    -- by some; by all that are asked, by all
    ∷ marking (1 ∷ 0 ∷ 1 ∷ 0 ∷ 0 ∷ 0 ∷ 1 ∷ 0 ∷ 0 ∷ 0 ∷ 0 ∷ 0 ∷ []) (2 ∷ 6 ∷ 0 ∷ 0 ∷ 0 ∷ 0 ∷ 0 ∷ 0 ∷ [])
    ∷ marking (1 ∷ 1 ∷ 1 ∷ 0 ∷ 0 ∷ 1 ∷ 1 ∷ 0 ∷ 0 ∷ 0 ∷ 0 ∷ 0 ∷ []) none_missing
    ∷ marking (replicate 12 1) none_missing
    -- ids that are not asked may be marked: 4; 4, 5 and 8 to 12
    ∷ marking (0 ∷ 0 ∷ 0 ∷ 1 ∷ 0 ∷ 0 ∷ 0 ∷ 0 ∷ 0 ∷ 0 ∷ 0 ∷ 0 ∷ []) all_missing
    ∷ marking (0 ∷ 0 ∷ 0 ∷ 1 ∷ 1 ∷ 0 ∷ 0 ∷ 1 ∷ 1 ∷ 1 ∷ 1 ∷ 1 ∷ []) all_missing
    ∷ []

-- any other
abbrev pub wrongly : List (Pod → Pod)
wrongly =
    -- each of the eight places wrong by one
    unmarked (2 ∷ 2 ∷ 3 ∷ 6 ∷ 7 ∷ 0 ∷ 0 ∷ 0 ∷ [])
    ∷ unmarked (1 ∷ 3 ∷ 3 ∷ 6 ∷ 7 ∷ 0 ∷ 0 ∷ 0 ∷ [])
    ∷ unmarked (1 ∷ 2 ∷ 4 ∷ 6 ∷ 7 ∷ 0 ∷ 0 ∷ 0 ∷ [])
    ∷ unmarked (1 ∷ 2 ∷ 3 ∷ 5 ∷ 7 ∷ 0 ∷ 0 ∷ 0 ∷ [])
    ∷ unmarked (1 ∷ 2 ∷ 3 ∷ 6 ∷ 8 ∷ 0 ∷ 0 ∷ 0 ∷ [])
    ∷ unmarked (1 ∷ 2 ∷ 3 ∷ 6 ∷ 7 ∷ 1 ∷ 0 ∷ 0 ∷ [])
    ∷ unmarked (1 ∷ 2 ∷ 3 ∷ 6 ∷ 7 ∷ 0 ∷ 1 ∷ 0 ∷ [])
    ∷ unmarked (1 ∷ 2 ∷ 3 ∷ 6 ∷ 7 ∷ 0 ∷ 0 ∷ 1 ∷ [])
    -- "rising": the right ids in another order, one twice
    ∷ unmarked (2 ∷ 1 ∷ 3 ∷ 6 ∷ 7 ∷ 0 ∷ 0 ∷ 0 ∷ [])
    ∷ unmarked (1 ∷ 2 ∷ 3 ∷ 7 ∷ 6 ∷ 0 ∷ 0 ∷ 0 ∷ [])
    ∷ unmarked (1 ∷ 2 ∷ 3 ∷ 6 ∷ 7 ∷ 7 ∷ 0 ∷ 0 ∷ [])
    -- "then zeros": a zero between, zeros first
    ∷ unmarked (1 ∷ 2 ∷ 0 ∷ 3 ∷ 6 ∷ 7 ∷ 0 ∷ 0 ∷ [])
    ∷ unmarked (0 ∷ 0 ∷ 0 ∷ 1 ∷ 2 ∷ 3 ∷ 6 ∷ 7 ∷ [])
    -- an id left out: the first, the last, one with its place left empty, all; and one more that is not asked
    ∷ unmarked (2 ∷ 3 ∷ 6 ∷ 7 ∷ 0 ∷ 0 ∷ 0 ∷ 0 ∷ [])
    ∷ unmarked (1 ∷ 2 ∷ 3 ∷ 6 ∷ 0 ∷ 0 ∷ 0 ∷ 0 ∷ [])
    ∷ unmarked (1 ∷ 0 ∷ 3 ∷ 6 ∷ 7 ∷ 0 ∷ 0 ∷ 0 ∷ [])
    ∷ unmarked none_missing
    ∷ unmarked (1 ∷ 2 ∷ 3 ∷ 4 ∷ 6 ∷ 7 ∷ 0 ∷ 0 ∷ [])
    -- not eight places: none, five, seven, nine; and numbers over a byte, of the same sum by weights of 256
    ∷ unmarked []
    ∷ unmarked (1 ∷ 2 ∷ 3 ∷ 6 ∷ 7 ∷ [])
    ∷ unmarked (1 ∷ 2 ∷ 3 ∷ 6 ∷ 7 ∷ 0 ∷ 0 ∷ [])
    ∷ unmarked (all_missing ++ (0 ∷ []))
    ∷ unmarked (257 ∷ 1 ∷ 3 ∷ 6 ∷ 7 ∷ 0 ∷ 0 ∷ 0 ∷ [])
    -- one mark more than the list tells: 1, 2, 3, 6 and 7
    ∷ marking (1 ∷ 0 ∷ 0 ∷ 0 ∷ 0 ∷ 0 ∷ 0 ∷ 0 ∷ 0 ∷ 0 ∷ 0 ∷ 0 ∷ []) all_missing
    ∷ marking (0 ∷ 1 ∷ 0 ∷ 0 ∷ 0 ∷ 0 ∷ 0 ∷ 0 ∷ 0 ∷ 0 ∷ 0 ∷ 0 ∷ []) all_missing
    ∷ marking (0 ∷ 0 ∷ 1 ∷ 0 ∷ 0 ∷ 0 ∷ 0 ∷ 0 ∷ 0 ∷ 0 ∷ 0 ∷ 0 ∷ []) all_missing
    ∷ marking (0 ∷ 0 ∷ 0 ∷ 0 ∷ 0 ∷ 1 ∷ 0 ∷ 0 ∷ 0 ∷ 0 ∷ 0 ∷ 0 ∷ []) all_missing
    ∷ marking (0 ∷ 0 ∷ 0 ∷ 0 ∷ 0 ∷ 0 ∷ 1 ∷ 0 ∷ 0 ∷ 0 ∷ 0 ∷ 0 ∷ []) all_missing
    -- another id struck out than is marked; its place left empty; the last one twice; the last one left; and by the mark of 4
    ∷ marking (0 ∷ 1 ∷ 0 ∷ 0 ∷ 0 ∷ 0 ∷ 0 ∷ 0 ∷ 0 ∷ 0 ∷ 0 ∷ 0 ∷ []) (2 ∷ 3 ∷ 6 ∷ 7 ∷ 0 ∷ 0 ∷ 0 ∷ 0 ∷ [])
    ∷ marking (0 ∷ 1 ∷ 0 ∷ 0 ∷ 0 ∷ 0 ∷ 0 ∷ 0 ∷ 0 ∷ 0 ∷ 0 ∷ 0 ∷ []) (1 ∷ 0 ∷ 3 ∷ 6 ∷ 7 ∷ 0 ∷ 0 ∷ 0 ∷ [])
    ∷ marking (0 ∷ 1 ∷ 0 ∷ 0 ∷ 0 ∷ 0 ∷ 0 ∷ 0 ∷ 0 ∷ 0 ∷ 0 ∷ 0 ∷ []) (1 ∷ 3 ∷ 6 ∷ 7 ∷ 7 ∷ 0 ∷ 0 ∷ 0 ∷ [])
    ∷ marking (1 ∷ 1 ∷ 1 ∷ 0 ∷ 0 ∷ 1 ∷ 1 ∷ 0 ∷ 0 ∷ 0 ∷ 0 ∷ 0 ∷ []) (7 ∷ 0 ∷ 0 ∷ 0 ∷ 0 ∷ 0 ∷ 0 ∷ 0 ∷ [])
    ∷ marking (0 ∷ 0 ∷ 0 ∷ 1 ∷ 0 ∷ 0 ∷ 0 ∷ 0 ∷ 0 ∷ 0 ∷ 0 ∷ 0 ∷ []) (1 ∷ 2 ∷ 3 ∷ 6 ∷ 0 ∷ 0 ∷ 0 ∷ 0 ∷ [])
    -- ids struck out by the values and no mark
    ∷ elsewhere none_missing
    -- not twelve marks
    ∷ marking (replicate 11 0) all_missing
    ∷ marking (replicate 13 0) all_missing
    ∷ []

-- calls that are lent nothing to change: a table word, the deadline, the pipe, samples
abbrev pub lent_nothing : List Call
lent_nothing = word status ∷ lone deadline ∷ lone (pipe (byte 0)) ∷ samples 0 (replicate 128 0) ∷ []

-- the table
abbrev pub list_bounds : List ComputedLine
list_bounds =
    map (λ (f : Pod → Pod). line (refusals_in (bent f) lent_nothing) (0 ∷ 0 ∷ 0 ∷ 0 ∷ [])) rightly
    ++ map (λ (f : Pod → Pod). line (refusals_in (asleep f) lent_nothing) (0 ∷ 0 ∷ 6 ∷ 0 ∷ [])) rightly
    ++ map (λ (f : Pod → Pod). line (refusals_in (bent f) lent_nothing) (3 ∷ 3 ∷ 3 ∷ 3 ∷ [])) wrongly
    ++ map (λ (f : Pod → Pod). line (refusals_in (asleep f) lent_nothing) (3 ∷ 3 ∷ 3 ∷ 3 ∷ [])) wrongly
    -- power on is not refused, and puts it right
    ++ map (λ (f : Pod → Pod). line (refusal_in (bent f) power ++ list_in (next (bent f) power)) all_missing) wrongly

-- ---- "keep them right through every call: Initialise, writes, Update, Shutdown"

-- a call, and what is shown after it: the third byte of its answer, and the list
pub record ListTurn : Type 0 where
  pub call : Call
  pub shown : List ℕ

-- a command, and a write
abbrev pub tries : Command → ℕ → List ℕ → ListTurn
tries c third l = record { call = packet (command_bytes c) (replicate 260 0); shown = third ∷ l }

abbrev pub writes : ℕ → ℕ → ℕ → List ℕ → ListTurn
writes id v third l = tries (asked.Write id (pos v)) third l

-- a call that leaves no third byte
abbrev pub does : Call → List ℕ → ListTurn
does c l = record { call = c; shown = 0 ∷ l }

-- mode 4
abbrev pub unfit_fields : Fields
unfit_fields =
    record { mode = 4; flags = 0; seconds = 0; milliseconds = 0; prioritylimit = 0; priorityremaining = 0; memorylimit = 0; memoryremaining = 0; poll = 1000 }

-- awake, what changes nothing of it: a second write of 2 and of 7, ids that are not asked, writes that are out of their rows, that would
-- leave 1 not below 2 or have no id, an Update and fields that are not taken, and every other call
abbrev pub unmoved : List (List ℕ → ListTurn)
unmoved =
    writes 2 10000 0x7E
    ∷ writes 7 3 0x7E
    ∷ writes 4 40 0x7E
    ∷ writes 5 1 0x7E
    ∷ writes 8 7 0x7E
    ∷ writes 9 500 0x7E
    ∷ writes 12 500 0x7E
    ∷ writes 3 99 0x39
    ∷ writes 6 15001 0x39
    ∷ writes 1 10000 0x39
    ∷ writes 0 1 0x39
    ∷ writes 13 1 0x39
    ∷ tries (asked.Update fresh_fields) 0x7E
    ∷ tries (asked.Update unfit_fields) 0x39
    ∷ tries (asked.Initialise unfit_fields) 0x39
    ∷ tries asked.Status 0
    ∷ tries (asked.Read 3) 3
    ∷ does (packet (0x94 ∷ 0x01 ∷ 0x7E ∷ 0xC4 ∷ 0x0D ∷ []) (replicate 260 0))
    ∷ does (packet [] (replicate 260 0))
    ∷ does (packet [] [])
    ∷ tries asked.Priority 0x3A
    ∷ does (put Priority (replicate 256 0))
    ∷ tries asked.Priority 0x3B
    ∷ does (word (command 0x0A04))
    ∷ does (word (data_in 5))
    ∷ does (word data_out)
    ∷ does (word (command 0x0001))
    ∷ does (word status)
    ∷ does (lone deadline)
    ∷ does (lone (pipe (byte 9)))
    ∷ does (lone (pipe timeout))
    ∷ does (lone (pipe (packet_out (replicate 8 9))))
    ∷ does (lone (pipe taken))
    ∷ does (samples 0 (replicate 128 0))
    ∷ tries asked.Shutdown 0x7E
    -- asleep: a write, an Update, a Shutdown and an Initialise that are not taken
    ∷ writes 1 0 0x38
    ∷ tries (asked.Update fresh_fields) 0x38
    ∷ tries asked.Shutdown 0x38
    ∷ tries (asked.Initialise unfit_fields) 0x39
    ∷ does (lone deadline)
    ∷ []

-- a pod just initialised, call by call
abbrev pub list_turns : List ListTurn
list_turns =
    -- a write strikes its id out, and those behind it move up
    writes 2 11000 0x7E (1 ∷ 3 ∷ 6 ∷ 7 ∷ 0 ∷ 0 ∷ 0 ∷ 0 ∷ [])
    ∷ writes 7 3 0x7E (1 ∷ 3 ∷ 6 ∷ 0 ∷ 0 ∷ 0 ∷ 0 ∷ 0 ∷ [])
    ∷ map (λ (t : List ℕ → ListTurn). t (1 ∷ 3 ∷ 6 ∷ 0 ∷ 0 ∷ 0 ∷ 0 ∷ 0 ∷ [])) unmoved
    -- Initialise has all of them again; each is written, then 3 once more
    ++ (tries (asked.Initialise fresh_fields) 0x7E (1 ∷ 2 ∷ 3 ∷ 6 ∷ 7 ∷ 0 ∷ 0 ∷ 0 ∷ [])
    ∷ writes 6 0 0x7E (1 ∷ 2 ∷ 3 ∷ 7 ∷ 0 ∷ 0 ∷ 0 ∷ 0 ∷ [])
    ∷ writes 1 0 0x7E (2 ∷ 3 ∷ 7 ∷ 0 ∷ 0 ∷ 0 ∷ 0 ∷ 0 ∷ [])
    ∷ writes 3 1000 0x7E (2 ∷ 7 ∷ 0 ∷ 0 ∷ 0 ∷ 0 ∷ 0 ∷ 0 ∷ [])
    ∷ writes 7 0 0x7E (2 ∷ 0 ∷ 0 ∷ 0 ∷ 0 ∷ 0 ∷ 0 ∷ 0 ∷ [])
    ∷ writes 2 1 0x7E (0 ∷ 0 ∷ 0 ∷ 0 ∷ 0 ∷ 0 ∷ 0 ∷ 0 ∷ [])
    ∷ writes 3 100 0x7E (0 ∷ 0 ∷ 0 ∷ 0 ∷ 0 ∷ 0 ∷ 0 ∷ 0 ∷ [])
    ∷ tries (asked.Update fresh_fields) 0x7E (0 ∷ 0 ∷ 0 ∷ 0 ∷ 0 ∷ 0 ∷ 0 ∷ 0 ∷ [])
    -- awake, Initialise has them again too; so has power on
    ∷ tries (asked.Initialise fresh_fields) 0x7E (1 ∷ 2 ∷ 3 ∷ 6 ∷ 7 ∷ 0 ∷ 0 ∷ 0 ∷ [])
    ∷ writes 3 100 0x7E (1 ∷ 2 ∷ 6 ∷ 7 ∷ 0 ∷ 0 ∷ 0 ∷ 0 ∷ [])
    ∷ does power (1 ∷ 2 ∷ 3 ∷ 6 ∷ 7 ∷ 0 ∷ 0 ∷ 0 ∷ [])
    ∷ [])

-- what is shown after each of some calls
abbrev pub shown_from : World → List Call → List (List ℕ)
shown_from w [] = []
shown_from w (c ∷ cs) = (get_or (step w c).told.bytes 2 0 ∷ list_in (next w c)) ∷ shown_from (next w c) cs

-- a world whose marks are taken back, the list as it is
abbrev pub taken_back : World → World
taken_back w = with_pod (unmarked (list_in w) w.pod) w

-- the list as from power and just initialised; every call but power on, of a list in another order, of a last place that is not 0, of a
-- mark more, put right by power on, of a mark of 4, and of a write of 1 with its mark and without; and that Initialise, Status and a write
-- mend nothing
abbrev pub list_lines : World → List ComputedLine
list_lines awake =
    line (list_in just_powered) (1 ∷ 2 ∷ 3 ∷ 6 ∷ 7 ∷ 0 ∷ 0 ∷ 0 ∷ [])
    ∷ line (list_in awake) (1 ∷ 2 ∷ 3 ∷ 6 ∷ 7 ∷ 0 ∷ 0 ∷ 0 ∷ [])
    ∷ line (refusals_in (bent (unmarked (2 ∷ 1 ∷ 3 ∷ 6 ∷ 7 ∷ 0 ∷ 0 ∷ 0 ∷ []))) judges) (replicate 13 3)
    ∷ line (refusals_in (asleep (unmarked (1 ∷ 2 ∷ 3 ∷ 6 ∷ 7 ∷ 0 ∷ 0 ∷ 1 ∷ []))) judges) (replicate 13 3)
    ∷ line (refusals_in (bent (marking (1 ∷ replicate 11 0) all_missing)) judges) (replicate 13 3)
    ∷ line (refusals_in (next (bent (marking (1 ∷ replicate 11 0) all_missing)) power) judges) judged_asleep
    ∷ line (refusals_in (bent (marking (0 ∷ 0 ∷ 0 ∷ 1 ∷ replicate 8 0) all_missing)) judges) judged_awake
    ∷ line (refusals_in (final awake ((writes 1 0 0 []).call ∷ [])) judges) judged_awake
    ∷ line (refusals_in (taken_back (final awake ((writes 1 0 0 []).call ∷ []))) judges) (replicate 13 3)
    ∷ line
    (refusals_in (bent (unmarked (2 ∷ 1 ∷ 3 ∷ 6 ∷ 7 ∷ 0 ∷ 0 ∷ 0 ∷ [])))
    ((tries (asked.Initialise fresh_fields) 0 []).call ∷ (tries asked.Status 0 []).call ∷ (writes 1 0 0 []).call ∷ [])) (3 ∷ 3 ∷ 3 ∷ [])
    ∷ []

pub record Missing : Type 0 where
  pub bounds : AsExpected list_bounds
  pub ends : AsExpected (list_lines just_initialised)
  pub turns : shown_from just_initialised (map (λ (t : ListTurn). t.call) list_turns) ≡ map (λ (t : ListTurn). t.shown) list_turns
