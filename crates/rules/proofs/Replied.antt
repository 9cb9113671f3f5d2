-- What a command that is not refused is told: the error of the first of its checks that holds, else what it shows.
-- Assumes nothing.
use Prim.Native.Nat.{ℕ}
use mathlib.Core.Path.{◌≡◌, refl, sym, ap}
use mathlib.Core.Bool.{true, false, cond}
use mathlib.Core.List.{List, [], ◌∷◌}
use Rattle.rows.specs.Rows.{Row, First, here, after, Clear, none, past}
use Rattle.rows.proofs.Bool.{never, not-true}
use Rattle.packets.specs.declared.Command.{Command}
use Rattle.packets.specs.declared.Parsed.TheVariants.{Asked}
use Rattle.packets.specs.Commands.{command_row}
use Rattle.packets.specs.Reading.{packet_read}
use Rattle.packets.specs.Answers.{answer_of, error_answer}
use Rattle.rules.specs.declared.Pod.{Pod}
use Rattle.rules.specs.State.{Lent}
use Rattle.rules.specs.Obey.{shut, checks_of, done_by}
use Rattle.rules.specs.Calls.{meant_body, reply_bytes, spoken_bytes, answered}
use Rattle.rules.specs.World.{World, packet, answering, Stepped, is_refused, is_answered, step}
use Rattle.rules.proofs.Happens.{Happens, by_rows, by_empty, by_damage, by_acknowledgement, by_check, by_command, happens}

-- the error of the first check that holds, else this answer
abbrev pub checked_answer : List Row → ℕ → List ℕ → List ℕ
checked_answer [] code a = a
checked_answer (r ∷ rs) code a = cond r.holds (error_answer code r.number) (checked_answer rs code a)

first-answer : (code : ℕ) (a : List ℕ) {n : ℕ} {rs : List Row} → First n rs → checked_answer rs code a ≡ error_answer code n
first-answer code a (here h) = rw h
first-answer code a (after h f) = rw h (first-answer code a f)

clear_answer : (code : ℕ) (a : List ℕ) {rs : List Row} → Clear rs → checked_answer rs code a ≡ a
clear_answer code a none = refl
clear_answer code a (past h k) = rw h (clear_answer code a k)

-- the body of a command that passes its checks
abbrev pub shown_by : Command → Lent → Pod → List ℕ
shown_by c l p = meant_body (done_by c l p).said (done_by c l p).pod (done_by c l p).lent

-- the answer to a command, by its checks
abbrev pub command_answer : Command → World → List ℕ
command_answer c w =
    checked_answer (checks_of c w.pod) (command_row c).code (answer_of (command_row c).code 0x01 (shown_by c w.lent (shut w.pod)))

pub command-told : (w : World) (b room : List ℕ) (c : Command) → packet_read b ≡ Asked c → is_answered w (packet b room) ≡ true
    → (step w (packet b room)).told ≡ answering room (command_answer c w)
unfolding answered spoken_bytes reply_bytes
command-told w b room c asks ok = on (happens w (packet b room)) asks (not-true ok)
  where
    on : {s : Stepped} → Happens w (packet b room) s → packet_read b ≡ Asked c → is_refused s.told.said ≡ false
        → s.told ≡ answering room (command_answer c w)
    on (by_rows d n f) a h = never refl h
    on (by_empty b room k e) a h = cc
    on (by_damage b room first n k e) a h = cc
    on (by_acknowledgement b room first one k e) a h = cc
    on (by_check b room d n k e f) a h =
        let same : d ≡ c = cc in
        rw (← same) (ap (answering room) (sym (first-answer (command_row d).code _ f)))
    on (by_command b room d k e q) a h =
        let same : d ≡ c = cc in
        rw (← same) (ap (answering room) (sym (clear_answer (command_row d).code _ q)))
