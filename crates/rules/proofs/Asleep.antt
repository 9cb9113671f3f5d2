-- Demand 3, second half: sleeping pods that differ only in parameters, table words and survey blocks answer alike, and they sleep so
-- from power on and from an accepted Shutdown.
-- Assumes nothing.
use mathlib.Core.Path.{◌≡◌, refl, sym, ap, ◌∙◌}
use mathlib.Core.Bool.{true, false}
use mathlib.Core.List.{List}
use Prim.Native.Nat.{ℕ}
use lib.ListN.{length}
use Rattle.rows.proofs.Laws.{ran-two}
use Rattle.packets.specs.declared.Command.TheVariants.{Shutdown}
use Rattle.tables.specs.Tables.{starts}
use Rattle.tables.specs.Port.{close_of}
use Rattle.rules.specs.declared.Exchange.TheVariants.{Closed}
use Rattle.rules.specs.State.{Lent, with_initialised, with_words, fresh_pod, sound_pod, with_tables}
use Rattle.rules.specs.Obey.{shut, done_by}
use Rattle.rules.specs.Calls.{power_call, answered}
use Rattle.rules.specs.World.{World, world, with_pod, packet, Stepped, step, next, over_tables}
use Rattle.rules.specs.Pairs.{sizes_in, Seen, seen_in, ShutsDown, Asleep}
use Rattle.rules.specs.Demands.{AnswerAlike, AsleepFromPower, AsleepFromShutdown}
use Rattle.rules.proofs.Eventful.{sound_at}
use Rattle.rules.proofs.Inside.{in_pod, fresh_in}
use Rattle.rules.proofs.Sound.{sound_next}
use Rattle.rules.proofs.Accepted.{accepted}
use Rattle.rules.proofs.Sleepers.{tables_same, disguise, sleepers, sleep_tells}

pub answer_alike : AnswerAlike
answer_alike v w z cs =
    let same = z.seen in
    let q = w.pod in
    let pod : disguise q.params q.priority q.ordinary v.pod ≡ q =
    λ i.
    record {
      initialised = (same i).initialised;
      fields = (same i).fields;
      params = q.params;
      exchange = (same i).exchange;
      words = (same i).words;
      priority = q.priority;
      ordinary = q.ordinary;
      pipe = (same i).pipe;
    } in
    let pair = sleepers v.pod q.params q.priority q.ordinary v.lent w.lent (ap (λ (s : Seen). s.sizes) same) z.off in
    sleep_tells cs v w (rw pod at pair) z.first z.second

-- ---- from power

-- two fresh pods
fresh_asleep : (l m : Lent) → sizes_in l ≡ sizes_in m → Asleep (world fresh_pod l) (world fresh_pod m)
unfolding fresh_pod
fresh_asleep l m e =
    record {
      seen = λ i. record { initialised = false; fields = fresh_pod.fields; exchange = Closed; words = fresh_pod.words; pipe = fresh_pod.pipe; sizes = e i };
      first = in_pod fresh_in;
      second = in_pod fresh_in;
      off = refl;
    }

starts_alike : (l m : Lent) → sizes_in l ≡ sizes_in m → sizes_in (with_tables starts l) ≡ sizes_in (with_tables starts m)
starts_alike l m e =
    λ i.
    record {
      priority = (e i).priority;
      ordinary = (e i).ordinary;
      five = length starts.five;
      six = length starts.six;
      seven = length starts.seven;
      load = (e i).load;
    }

-- "From power-on to the first accepted Initialise"
pub asleep_from_power : AsleepFromPower
unfolding step power_call
asleep_from_power l m e =
    let v = world fresh_pod l in
    let w = world fresh_pod m in
    ran-two (λ o q. Asleep (over_tables o v).world (over_tables q w).world) (rw (tables_same l m e)) (λ n. fresh_asleep l m e)
    (λ k. fresh_asleep (with_tables starts l) (with_tables starts m) (starts_alike l m e))

-- ---- from Shutdown

-- what an accepted Shutdown leaves
abbrev off_world : World → World
off_world w = with_pod (with_initialised false (with_words (close_of w.pod.words) (shut w.pod))) w

off-world : (b room : List ℕ) (w : World) → ShutsDown b room w
    → next w (packet b room) ≡ off_world w
unfolding done_by answered
off-world b room w h = ap (λ (s : Stepped). s.world) (accepted Shutdown b room w h.asks h.accepted).is

-- within its bounds
off_sound : (b room : List ℕ) (w : World) → ShutsDown b room w → sound_pod (next w (packet b room)).pod ≡ true
off_sound b room w h = sound_next w (packet b room) (sound_at w b room (accepted Shutdown b room w h.asks h.accepted).rows)

-- "and from an accepted Shutdown to the next accepted Initialise"
pub asleep_from_shutdown : AsleepFromShutdown
asleep_from_shutdown b room v w same h k =
    let seen : seen_in (off_world v) ≡ seen_in (off_world w) = λ i.
    record {
      initialised = false;
      fields = (same i).fields;
      exchange = Closed;
      words = close_of (same i).words;
      pipe = (same i).pipe;
      sizes = (same i).sizes;
    } in
    record {
      seen = ap seen_in (off-world b room v h) ∙ seen ∙ sym (ap seen_in (off-world b room w k));
      first = off_sound b room v h;
      second = off_sound b room w k;
      off = ap (λ (x : World). x.pod.initialised) (off-world b room v h);
    }
