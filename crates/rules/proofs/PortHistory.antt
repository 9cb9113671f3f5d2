-- Demand 2: the table port is that of the history.
-- Assumes nothing.
use mathlib.Core.Path.{◌≡◌, refl, ap, ◌∙◌}
use mathlib.Core.Bool.{false}
use Rattle.tables.specs.Port.{start_words}
use Rattle.rules.specs.State.{fresh_pod, desk_in}
use Rattle.rules.specs.Obey.{initialised_pod, done_by}
use Rattle.rules.specs.World.{World, world, power, Stepped, powered}
use Rattle.rules.specs.History.{Event}
use Rattle.rules.specs.Port.{Ported, ported, ported_by}
use Rattle.rules.specs.Demands.{PortIsHistory}
use Rattle.rules.proofs.Happens.{Happens, by_rows, by_power, happens}
use Rattle.rules.proofs.Eventful.{Eventful, quiet, anew, initialised, slept, updated, wrote, began, closed, acknowledged, shelved, spoken, touched}
use Rattle.rules.proofs.Histories.{history, powered_fresh}
use Rattle.rules.proofs.Untouched.{acknowledged_untouched}
use Rattle.rules.proofs.Heard.{as_heard}

abbrev port_in : World → Ported
port_in w = ported w.pod.initialised w.pod.words w.lent.load

event_ported : (w v : World) (e : Event) → Eventful w e v → port_in v ≡ ported_by e (port_in w)
unfolding ported_by done_by fresh_pod initialised_pod
event_ported w _ _ quiet = refl
event_ported w _ _ anew = refl
event_ported w _ _ (initialised f) = refl
event_ported w _ _ (slept a) = refl
event_ported w _ _ (updated f) = refl
event_ported w _ _ (wrote id v k) = refl
event_ported w _ _ (began x a k) = refl
event_ported w _ _ closed = refl
event_ported w _ _ (acknowledged first one k) =
    let same = acknowledged_untouched first one w.pod in
    λ i. ported (same.initialised i) (same.words i) w.lent.load
event_ported w _ _ (shelved s b k) = refl
event_ported w _ _ (spoken c k) =
    let so = as_heard c w.pod.initialised w.pod.words (desk_in w.lent) in
    λ i. ported w.pod.initialised (so.words i) (so.load i)
event_ported w _ _ (touched c k) = refl

-- power leaves the words of a load, refused or not
load-left : {w : World} {s : Stepped} → Happens w power s → s.world.lent.load ≡ w.lent.load
load-left (by_rows c n f) = refl
load-left (by_power k) = refl

pub port_is_history : PortIsHistory
unfolding fresh_pod
port_is_history l cs =
    ap (λ (p : Ported). p.words)
    (history ported_by (λ w p. port_in w ≡ p) (λ w v e k p h. event_ported w v e k ∙ ap (ported_by e) h) cs (powered l) (ported false start_words l.load)
    (λ i. ported (powered_fresh l i).initialised (powered_fresh l i).words (load-left (happens (world fresh_pod l) power) i)))
