-- A command that is answered without error, as Initialise and Shutdown are when accepted: none of its rows and checks holds, and it
-- does what it does.
-- Assumes nothing.
use Prim.Native.Nat.{ℕ}
use native.Mathlib.Omega.{arith}
use mathlib.Core.Path.{◌≡◌, refl, ap}
use mathlib.Core.Bool.{true}
use mathlib.Core.List.{List}
use Rattle.rows.specs.Rows.{Clear}
use Rattle.rows.proofs.Bool.{never}
use Rattle.rows.proofs.Laws.{never_both}
use Rattle.packets.specs.declared.Command.{Command}
use Rattle.packets.specs.declared.Parsed.TheVariants.{Asked}
use Rattle.packets.specs.Commands.{command_row}
use Rattle.packets.specs.Reading.{packet_read}
use Rattle.rules.specs.Obey.{checks_of}
use Rattle.rules.specs.Calls.{packet_heard, answered, spoken_bytes, reply_bytes}
use Rattle.rules.specs.World.{World, packet, Stepped, step, rows_of}
use Rattle.rules.specs.History.{succeeded}
use Rattle.rules.proofs.Happens.{Happens, by_rows, by_empty, by_damage, by_acknowledgement, by_check, by_command, obeying, happens}
use Rattle.rules.proofs.Succeeded.{error_fails, room_at}

pub record Accepted (c : Command) (b room : List ℕ) (w : World) (s : Stepped) : Type 0 where
  pub rows : Clear (rows_of w (packet b room))
  pub checks : Clear (checks_of c w.pod)
  pub is : s ≡ obeying c room w

accepted_by : {c : Command} {b room : List ℕ} {w : World} {s : Stepped} → Happens w (packet b room) s → packet_read b ≡ Asked c → succeeded s.told ≡ true
    → Accepted c b room w s
unfolding succeeded packet_heard answered spoken_bytes reply_bytes
accepted_by (by_rows c n f) asks ok = never ok refl
accepted_by (by_empty b room k e) asks ok = never ok refl
accepted_by (by_damage b room first n k e) asks ok = let z : ◌≡◌ {A = ℕ} 0 1 = cc in absurd (omega arith)
accepted_by (by_acknowledgement b room first one k e) asks ok = never ok refl
accepted_by {c} {w = w} (by_check b room d n k e f) asks ok = never ok (error_fails room (command_row d).code n (room_at w b room k))
accepted_by {c} {w = w} (by_command b room d k e q) asks ok =
    let same : d ≡ c = cc in
    rw (← same) (record { rows = k; checks = q; is = refl })

pub accepted : (c : Command) (b room : List ℕ) (w : World) → packet_read b ≡ Asked c → succeeded (step w (packet b room)).told ≡ true
    → Accepted c b room w (step w (packet b room))
accepted c b room w asks ok = accepted_by (happens w (packet b room)) asks ok

-- and so it is where none of them holds
obeys_by : {c : Command} {b room : List ℕ} {w : World} {s : Stepped} → Happens w (packet b room) s → packet_read b ≡ Asked c → Clear (rows_of w (packet b room))
    → Clear (checks_of c w.pod) → s ≡ obeying c room w
obeys_by (by_rows c n f) asks k q = never_both f k
obeys_by (by_empty b room k e) asks k' q = let z : ◌≡◌ {A = ℕ} 0 1 = cc in absurd (omega arith)
obeys_by (by_damage b room first n k e) asks k' q = let z : ◌≡◌ {A = ℕ} 0 1 = cc in absurd (omega arith)
obeys_by (by_acknowledgement b room first one k e) asks k' q = let z : ◌≡◌ {A = ℕ} 0 1 = cc in absurd (omega arith)
obeys_by {c} {w = w} (by_check b room d n k e f) asks k' q = let same : d ≡ c = cc in never_both (rw same at f) q
obeys_by {c} {room = r} {w = w} (by_command b room d k e q) asks k' q' = let same : d ≡ c = cc in ap (λ (x : Command). obeying x r w) same

pub obeys : (c : Command) (b room : List ℕ) (w : World) → packet_read b ≡ Asked c → Clear (rows_of w (packet b room)) → Clear (checks_of c w.pod)
    → step w (packet b room) ≡ obeying c room w
obeys c b room w asks k q = obeys_by (happens w (packet b room)) asks k q
