-- Demand 1: no call leaves the bounds: each command, word and pipe call, then what happens at any call, then every history.
-- Assumes nothing.
use Prim.Native.Nat.{ℕ, ◌-◌}
use native.Mathlib.Omega.{arith}
use mathlib.Core.Path.{◌≡◌, refl, ap, ◌∙◌}
use mathlib.Core.List.{List, [], ◌∷◌}
use mathlib.Core.Bool.{Bool, true, false, ◌||◌, cond}
use mathlib.Core.Option.{Option, none as unmoved, some}
use lib.Dec.{eqb}
use Rattle.rows.specs.Rows.{Out, Clear, none, past}
use Rattle.rows.proofs.Bool.{by-test, and_left, and_right, and_both, not-false}
use Rattle.blocks.specs.declared.Store.{Store}
use Rattle.blocks.specs.declared.Store.TheVariants.{Priority, Ordinary}
use Rattle.blocks.specs.Stores.{capacity_of}
use Rattle.blocks.proofs.Laws.{put_sound, drop_sound}
use Rattle.packets.specs.declared.Fields.{Fields}
use Rattle.packets.specs.declared.Command.{Command}
use Rattle.packets.specs.declared.Command.TheVariants as command
use Rattle.packets.specs.Commands.{fields_bounded}
use Rattle.packets.proofs.Laws.{Within, bounded_within, within_bounded}
use Rattle.params.proofs.Inside.{stored_sound}
use Rattle.tables.specs.declared.Words.{Words}
use Rattle.tables.specs.Port.{Desk}
use Rattle.tables.specs.Bounds.{sound_words}
use Rattle.tables.proofs.Kept.{close_sound}
use Rattle.tables.proofs.Closing.{close_idle}
use Rattle.pipe.specs.declared.Pipe.{Pipe}
use Rattle.pipe.specs.Input.{sound_input}
use Rattle.pipe.specs.Output.{sound_output}
use Rattle.pipe.specs.Pipe.{sound_pipe}
use Rattle.pipe.proofs.Laws.{byte_sound, timeout_sound, packet_sound, taken_sound, out_timeout_sound}
use Rattle.rules.specs.declared.Exchange.{Exchange}
use Rattle.rules.specs.declared.Exchange.TheVariants.{Closed, Status, Read, Receive}
use Rattle.rules.specs.declared.Pod.{Pod}
use Rattle.rules.specs.State.{Lent, desk_in, with_exchange, with_words, with_remaining, ring_of, remaining_of, fresh_pod, sound_pod}
use Rattle.rules.specs.Obey.{shut, checks_of, done_by, initialised_pod, matches, drop_from, settled, acknowledged_of}
use Rattle.rules.specs.Refusals.{Giving}
use Rattle.rules.specs.Families.{WordCall, word_of, PipeCall, byte, timeout, packet_out, taken, pipe_of}
use Rattle.rules.specs.Calls.{reach_of, reached, answered, packet_heard, spoken_bytes, reply_bytes}
use Rattle.rules.specs.World.{World, world, Call, power, Stepped, next, final, powered}
use Rattle.rules.specs.History.{Touch, lone_as}
use Rattle.rules.specs.Demands.{KeptSound}
use Rattle.rules.proofs.Lone.{moved_by, touch_of, lone_is}
use Rattle.rules.proofs.Happens.{Happens, by_rows, by_power, by_empty, by_damage, by_acknowledgement, by_check, by_command, by_put, by_word, by_lone, by_samples, checks-shut, happens}
use Rattle.rules.proofs.Fits.{put_fits}
use Rattle.rules.proofs.Fares.{fares}
use Rattle.rules.proofs.Inside.{PodIn, in_pod, pod_in, ring_in, off_still, in_shut, in_open, in_fields, in_params, in_ring, in_pipe, in_words, in_sleep, anew_in, fresh_in}

-- ---- the commands

-- a command, an open exchange being closed, that passes its checks
pub command_in : (c : Command) (l : Lent) (p : Pod) → Clear (checks_of c p) → p.exchange ≡ Closed → PodIn p → PodIn (done_by c l p).pod
unfolding checks_of done_by initialised_pod sound_words
command_in (command.Initialise f) l p (past k none) shut h = anew_in true f _ (not-false k)
command_in command.Status l p (past on none) shut h = in_open h Status (not-false on)
command_in (command.Update f) l p (past on (past k none)) shut h = in_fields h f (not-false k)
command_in (command.Write id v) l p (past on (past k none)) shut h = in_params h _ (stored_sound p.params id v h.params (not-false k))
command_in (command.Read id) l p (past on k) shut h = in_open h Read (not-false on)
command_in command.Priority l p (past on k) shut h = in_open h (Receive Priority) (not-false on)
command_in command.Data l p (past on k) shut h = in_open h (Receive Ordinary) (not-false on)
command_in command.Shutdown l p (past on none) shut h =
    in_sleep (in_words h _ (close_sound p.words h.words) (λ off. close_idle p.words)) shut (close_idle p.words)

-- ---- the acknowledgement

-- a remaining that falls by 1 stays at most its limit
pub fewer_bounded : (s : Store) (f : Fields) → fields_bounded f ≡ true → fields_bounded (with_remaining s (remaining_of s f - 1) f) ≡ true
fewer_bounded s f h = within_bounded _ (on s (bounded_within f h))
  where
    on : (s : Store) → Within f → Within (with_remaining s (remaining_of s f - 1) f)
    on Priority b = record { mode = b.mode; milliseconds = b.milliseconds; priority = omega (arith, b.priority); memory = b.memory; least = b.least; most = b.most }
    on Ordinary b = record { mode = b.mode; milliseconds = b.milliseconds; priority = b.priority; memory = omega (arith, b.memory); least = b.least; most = b.most }

dropped_in : (s : Store) (p : Pod) → PodIn p → PodIn (drop_from s p)
unfolding drop_from
dropped_in s p h =
    by-test PodIn (eqb (ring_of s p).waiting 0 || eqb (remaining_of s p.fields) 0) (λ e. h)
    (λ e. in_ring (in_fields h _ (fewer_bounded s p.fields h.fields)) s _ (drop_sound (capacity_of s) (ring_of s p) (ring_in h s)))

settled_in : (x : Exchange) (p : Pod) → PodIn p → PodIn (settled x p)
unfolding settled
settled_in Closed p h = h
settled_in Status p h = h
settled_in Read p h = h
settled_in (Receive s) p h = dropped_in s p h

pub acknowledged_in : (first : ℕ) (one : Bool) (p : Pod) → PodIn p → PodIn (acknowledged_of first one p)
unfolding acknowledged_of
acknowledged_in first one p h =
    in_shut (by-test PodIn (matches first one p.exchange) (λ e. settled_in p.exchange p h) (λ e. h))

-- ---- the families

-- a table word
pub word_in : (c : WordCall) (d : Desk) {p : Pod} → PodIn p → PodIn (with_words (word_of c p.initialised p.words d).pod p)
word_in c d {p} h =
    in_words h _ ((fares c).sound p.initialised p.words d h.words)
    (λ off.
    let x = (fares c).asleep p.words (off_still p h off) in
    rw off (ap (λ (o : Out Giving Words Desk). o.pod.transfer) (x.is d) ∙ x.idle))

-- a pipe call
pub pipe_sound : (c : PipeCall) (i : Pipe) → sound_pipe i ≡ true → sound_pipe (pipe_of c i).pod ≡ true
unfolding pipe_of sound_pipe
pipe_sound c i h = on c (and_left (sound_input i.input) (sound_output i.output) h) (and_right (sound_input i.input) (sound_output i.output) h)
  where
    on : (c : PipeCall) → sound_input i.input ≡ true → sound_output i.output ≡ true → sound_pipe (pipe_of c i).pod ≡ true
    on (byte b) a o = and_both (byte_sound i.input b a) o
    on timeout a o = and_both (timeout_sound i.input a) (out_timeout_sound i.output o)
    on (packet_out b) a o = and_both a (packet_sound i.output b o)
    on taken a o = and_both a (taken_sound i.output o)

-- a call that is lent nothing
moved_sound : (m : Option PipeCall) (i : Pipe) → sound_pipe i ≡ true → sound_pipe (moved_by m i).pod ≡ true
moved_sound unmoved i h = h
moved_sound (some c) i h = pipe_sound c i h

closed_in : (b : Bool) {p : Pod} → PodIn p → PodIn (with_exchange (cond b Closed p.exchange) p)
closed_in true h = in_shut h
closed_in false h = h

touch_in : (t : Touch) {p : Pod} → PodIn p → PodIn (reached (touch_of t (reach_of p)) p).pod
touch_in t {p} h = in_pipe (closed_in t.closes h) _ (moved_sound t.moves p.pipe h.pipe)

-- ---- every call

pub step_in : {w : World} {c : Call} {s : Stepped} → Happens w c s → PodIn w.pod → PodIn s.world.pod
unfolding answered packet_heard spoken_bytes reply_bytes
step_in (by_rows c n f) h = h
step_in (by_power k) h = fresh_in
step_in (by_empty b room k e) h = h
step_in (by_damage b room first n k e) h = in_shut h
step_in {w} (by_acknowledgement b room first one k e) h = acknowledged_in first one w.pod h
step_in (by_check b room c n k e f) h = in_shut h
step_in {w} (by_command b room c k e q) h =
    command_in c w.lent (shut w.pod) (rw (← checks-shut c w.pod) at q) refl (in_shut h)
step_in {w} (by_put s b k) h = in_ring h s _ (put_sound (capacity_of s) (ring_of s w.pod) (ring_in h s) (put_fits s b w k).free)
step_in {w} (by_word c k) h = word_in c (desk_in w.lent) h
step_in {w} (by_lone c k) h = rw (lone_is c (reach_of w.pod)) (touch_in (lone_as c) h)
step_in (by_samples k xs q) h = h

-- so the test of the bounds passes after every call that it passed before
pub sound_next : (w : World) (c : Call) → sound_pod w.pod ≡ true → sound_pod (next w c).pod ≡ true
sound_next w c h = in_pod (step_in (happens w c) (pod_in w.pod h))

-- from power on the pod is within its bounds, whatever is lent
pub powered_sound : (l : Lent) → sound_pod (powered l).pod ≡ true
powered_sound l = sound_next (world fresh_pod l) power (in_pod fresh_in)

-- through any calls
pub final_sound : (w : World) (cs : List Call) → sound_pod w.pod ≡ true → sound_pod (final w cs).pod ≡ true
unfolding final
final_sound w [] h = h
final_sound w (c ∷ cs) h = final_sound (next w c) cs (sound_next w c h)

pub kept_sound : KeptSound
kept_sound = (powered_sound, sound_next)
