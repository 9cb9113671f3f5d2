-- What happens, by its event: what each event leaves. Each fold's proof goes by these cases.
-- Assumes nothing.
use Prim.Native.Nat.{ℕ, ◌≤◌}
use mathlib.Core.Path.{◌≡◌}
use mathlib.Core.Bool.{Bool, true, false}
use mathlib.Core.List.{List}
use lib.Dec.{eqb}
use lib.ListN.{length}
use lib.IntN.{ℤ}
use Rattle.rows.specs.Rows.{Clear, none, past, given}
use Rattle.rows.proofs.Bool.{not-false}
use Rattle.rows.proofs.Laws.{clear_head, clear_rest}
use Rattle.blocks.specs.declared.Store.{Store}
use Rattle.blocks.specs.declared.Store.TheVariants as store
use Rattle.blocks.specs.declared.Ring.{Ring}
use Rattle.packets.specs.declared.Command.{Command}
use Rattle.packets.specs.declared.Command.TheVariants.{Initialise, Status, Update, Write, Read, Priority, Data, Shutdown}
use Rattle.packets.specs.declared.Fields.{Fields}
use Rattle.packets.specs.Commands.{command_row}
use Rattle.params.specs.Rules.{write_allowed}
use Rattle.rules.specs.declared.Pod.{Pod}
use Rattle.rules.specs.declared.Exchange.{Exchange}
use Rattle.rules.specs.declared.Exchange.TheVariants as exchange
use Rattle.rules.specs.State.{of_store, remaining_of, fresh_fields, sound_pod, with_exchange}
use Rattle.rules.specs.Obey.{shut, checks_of, done_by, acknowledged_of}
use Rattle.rules.specs.Families.{WordCall, LoneCall}
use Rattle.rules.specs.Calls.{reply_bytes, spoken_bytes, answered, reach_of, reached, packet_heard}
use Rattle.rules.specs.World.{World, world, Call, packet, put, word, lone, Stepped, over_sent, rows_of}
use Rattle.rules.specs.History.{Event, nothing, begins, sleeps, updates, writes_parameter, opens_exchange, closes_exchange, hears_acknowledgement, puts, words, Touch, lone_as, touches, obeyed_as, succeeded, event_of}
use Rattle.rules.proofs.Happens.{Happens, by_rows, by_power, by_empty, by_damage, by_acknowledgement, by_check, by_command, by_put, by_word, by_lone, by_samples, powering, obeying, putting, wording}
use Rattle.rules.proofs.Lone.{touch_of, lone_is}
use Rattle.rules.proofs.Succeeded.{one_succeeds, error_fails, room_at}

-- the block of an open receive waits, and remaining is above 0
abbrev WaitsIn : Exchange → Ring → Ring → Fields → Type 0
WaitsIn exchange.Closed a b f = Unit {0}
WaitsIn exchange.Status a b f = Unit {0}
WaitsIn exchange.Read a b f = Unit {0}
WaitsIn (exchange.Receive s) a b f = (eqb (of_store s a b).waiting 0 ≡ false) × (eqb (remaining_of s f) 0 ≡ false)

abbrev pub Waits : Exchange → Pod → Type 0
Waits x p = WaitsIn x p.priority p.ordinary p.fields

-- the world after a command that passes its checks, by its definition
abbrev pub obeyed_in : Command → World → World
obeyed_in c w = let o = done_by c w.lent (shut w.pod) in world o.pod o.lent

-- a call that is lent nothing, by what the history takes it for
abbrev touching : Touch → World → Stepped
touching t w = over_sent (given (reached (touch_of t (reach_of w.pod)) w.pod)) w

pub data Eventful (w : World) : Event → World → Type 0 where
  quiet : Eventful w nothing w
  anew : Eventful w (begins false fresh_fields) (powering w).world
  initialised : (f : Fields) → Eventful w (begins true f) (obeyed_in (Initialise f) w)
  slept : w.pod.initialised ≡ true → Eventful w sleeps (obeyed_in Shutdown w)
  updated : (f : Fields) → Eventful w (updates f) (obeyed_in (Update f) w)
  wrote : (id : ℕ) (v : ℤ) → write_allowed w.pod.params id v ≡ true → Eventful w (writes_parameter id v) (obeyed_in (Write id v) w)
  -- a type 2 command: nothing else changes
  began : (x : Exchange) → w.pod.initialised ≡ true → Waits x w.pod → Eventful w (opens_exchange x) (world (with_exchange x w.pod) w.lent)
  closed : Eventful w closes_exchange (world (shut w.pod) w.lent)
  acknowledged : (first : ℕ) (one : Bool) → sound_pod w.pod ≡ true
      → Eventful w (hears_acknowledgement first one) (world (acknowledged_of first one w.pod) w.lent)
  shelved : (s : Store) (b : List ℕ) → Clear (rows_of w (put s b)) → Eventful w (puts s b) (putting s b w).world
  spoken : (c : WordCall) → Clear (rows_of w (word c)) → Eventful w (words c) (wording c w).world
  touched : (c : LoneCall) → Clear (rows_of w (lone c)) → Eventful w (touches (lone_as c) (touching (lone_as c) w).told.bytes) (touching (lone_as c) w).world

-- where no row of a packet holds, the pod is sound
pub sound_at : (w : World) (b room : List ℕ) → Clear (rows_of w (packet b room)) → sound_pod w.pod ≡ true
unfolding rows_of
sound_at w b room k = not-false (clear_head (clear_rest (clear_rest k)))

-- a command answered without error
module _ (w : World) (room : List ℕ) (wide : 260 ≤ length room) where
  obeyed : (c : Command) → Clear (checks_of c w.pod) → Eventful w (obeyed_as c) (obeying c room w).world
  unfolding checks_of done_by answered
  obeyed (Initialise f) q = initialised f
  obeyed Status (past a none) = began exchange.Status (not-false a) tt
  obeyed (Update f) q = updated f
  obeyed (Write id v) (past a (past b none)) = wrote id v (not-false b)
  obeyed (Read id) (past a q) = began exchange.Read (not-false a) tt
  obeyed Priority (past a (past b (past c none))) = began (exchange.Receive store.Priority) (not-false a) (b, c)
  obeyed Data (past a (past b (past c none))) = began (exchange.Receive store.Ordinary) (not-false a) (b, c)
  obeyed Shutdown (past a none) = slept (not-false a)

  -- it is known by its answer
  pub command_succeeds : (c : Command) → succeeded (obeying c room w).told ≡ true
  unfolding answered spoken_bytes reply_bytes
  command_succeeds c = one_succeeds room (command_row c).code _ wide

pub eventful : {w : World} {c : Call} {s : Stepped} → Happens w c s → Eventful w (event_of c s.told) s.world
unfolding event_of packet_heard answered spoken_bytes reply_bytes
eventful (by_rows c n f) = quiet
eventful (by_power k) = anew
eventful {w} (by_empty b room k e) = rw e quiet
eventful {w} (by_damage b room first n k e) = rw e closed
eventful {w} (by_acknowledgement b room first one k e) = rw e (acknowledged first one (sound_at w b room k))
eventful {w} (by_check b room c n k e f) = rw (e, error_fails room (command_row c).code n (room_at w b room k)) closed
eventful {w} (by_command b room c k e q) = rw (e, command_succeeds w room (room_at w b room k) c) (obeyed w room (room_at w b room k) c q)
eventful (by_put s b k) = shelved s b k
eventful (by_word c k) = spoken c k
eventful {w} (by_lone c k) = rw (lone_is c (reach_of w.pod)) (touched c k)
eventful (by_samples k xs c) = quiet
