-- Demand 2: checks 7 to 9 by their sentences are those that a packet is answered by.
-- Assumes nothing.
use Prim.Native.Nat.{ℕ, ◌<◌}
use native.Mathlib.Omega.{arith}
use mathlib.Core.Path.{◌≡◌, refl, ◌∙◌}
use mathlib.Core.Bool.{true, not, cond, and-true}
use mathlib.Core.List.{List, [], ◌∷◌}
use Rattle.rows.specs.Rows.{Row, First, here, after, Clear, none, past, rising}
use Rattle.rows.proofs.Bool.{and-false}
use Rattle.rows.proofs.Laws.{Gate, stops, opens, gate}
use Rattle.rows.proofs.Lowest.{first_over}
use Rattle.packets.specs.declared.Command.{Command}
use Rattle.packets.specs.declared.Command.TheVariants.{Initialise, Status, Update, Write, Read, Priority, Data, Shutdown}
use Rattle.packets.specs.Commands.{command_row, command_place}
use Rattle.packets.specs.Answers.{error_answer}
use Rattle.rules.specs.declared.Pod.{Pod}
use Rattle.rules.specs.Obey.{checks_of}
use Rattle.rules.specs.World.{packet, Told, answering, step}
use Rattle.rules.specs.Checks.{Succeeds, AnswersCommand}
use Rattle.rules.specs.Judged.{check_of}
use Rattle.rules.specs.Demands.{ChecksExactly}
use Rattle.rules.proofs.Checked.{packet_answered}

-- the number of the first row that holds, 0 for none
abbrev first_of : List Row → ℕ
first_of [] = 0
first_of (r ∷ rs) = cond r.holds r.number (first_of rs)

first_is : {n : ℕ} {rs : List Row} → First n rs → first_of rs ≡ n
first_is (here h) = rw h refl
first_is (after h f) = rw h (first_is f)

clear_is : {rs : List Row} → Clear rs → first_of rs ≡ 0
clear_is none = refl
clear_is (past h k) = rw h (clear_is k)

checks_are : (c : Command) (p : Pod) → check_of c p ≡ first_of (checks_of c p)
unfolding check_of checks_of command_row command_place
checks_are (Initialise f) p = rw (and-false (not p.initialised))
checks_are Status p = rw (and-true (not p.initialised))
checks_are (Update f) p = rw (and-true (not p.initialised))
checks_are (Write id v) p = rw (and-true (not p.initialised))
checks_are (Read id) p = rw (and-true (not p.initialised))
checks_are Priority p = rw (and-true (not p.initialised))
checks_are Data p = rw (and-true (not p.initialised))
checks_are Shutdown p = rw (and-true (not p.initialised))

checks_rise : (c : Command) (p : Pod) → rising 0 (checks_of c p) ≡ true
unfolding rising checks_of
checks_rise (Initialise f) p = refl
checks_rise Status p = refl
checks_rise (Update f) p = refl
checks_rise (Write id v) p = refl
checks_rise (Read id) p = refl
checks_rise Priority p = refl
checks_rise Data p = refl
checks_rise Shutdown p = refl

pub checks_exactly : ChecksExactly
checks_exactly w b room c asks ok = on (gate (checks_of c p)) (rw asks at (packet_answered w b room ok))
  where
    p : Pod
    p = w.pod

    t : Told
    t = (step w (packet b room)).told

    on : Gate (checks_of c p) → AnswersCommand c p room t
        → (0 < check_of c p → t ≡ answering room (error_answer (command_row c).code (check_of c p))) × (check_of c p ≡ 0 → Succeeds c room t)
    on (stops n f) a =
        let is : check_of c p ≡ n = checks_are c p ∙ first_is f in
        let over : 0 < n = first_over f 0 (checks_rise c p) in
        (λ h. rw is (a.fails n f), λ h. absurd (omega (arith, is, over, h)))
    on (opens k) a =
        let is : check_of c p ≡ 0 = checks_are c p ∙ clear_is k in
        (λ h. absurd (omega (arith, is, h)), λ h. a.succeeds k)
