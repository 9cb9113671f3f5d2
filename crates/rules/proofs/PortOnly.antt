-- Demand 2: which calls touch the table port, where each table's next read begins, and which address is given.
-- Assumes nothing.
use mathlib.Core.Path.{◌≡◌, refl, ap}
use mathlib.Core.Bool.{true}
use Rattle.rows.specs.Rows.{Clear}
use Rattle.rows.proofs.Laws.{never_both}
use Rattle.tables.specs.declared.Words.{Words}
use Rattle.rules.specs.State.{fresh_pod, desk_in}
use Rattle.rules.specs.Obey.{initialised_pod, done_by}
use Rattle.rules.specs.Families.{WordCall}
use Rattle.rules.specs.World.{World, word, Stepped, is_answered, rows_of, next}
use Rattle.rules.specs.History.{Event}
use Rattle.rules.specs.Port.{port_by, heard_in}
use Rattle.rules.specs.Demands.{PortOnly, PlacesOnly}
use Rattle.rules.proofs.Happens.{Happens, by_rows, by_word, happens}
use Rattle.rules.proofs.Eventful.{Eventful, quiet, anew, initialised, slept, updated, wrote, began, closed, acknowledged, shelved, spoken, touched, eventful}
use Rattle.rules.proofs.Untouched.{acknowledged_untouched}
use Rattle.rules.proofs.Answered.{answered_clear}
use Rattle.rules.proofs.Heard.{as_heard}

event_port : (w v : World) (e : Event) → Eventful w e v
    → v.pod.words ≡ port_by e w.pod.initialised w.pod.words (desk_in w.lent)
unfolding port_by done_by fresh_pod initialised_pod
event_port w _ _ quiet = refl
event_port w _ _ anew = refl
event_port w _ _ (initialised f) = refl
event_port w _ _ (slept a) = refl
event_port w _ _ (updated f) = refl
event_port w _ _ (wrote id v k) = refl
event_port w _ _ (began x a k) = refl
event_port w _ _ closed = refl
event_port w _ _ (acknowledged first one k) = (acknowledged_untouched first one w.pod).words
event_port w _ _ (shelved s b k) = refl
event_port w _ _ (spoken c k) = (as_heard c w.pod.initialised w.pod.words (desk_in w.lent)).words
event_port w _ _ (touched c k) = refl

pub port_only : PortOnly
port_only w c = event_port w _ _ (eventful (happens w c))

-- ---- a table word

-- answered, it leaves of the port what is heard of it
pub word_leaves : (w : World) (c : WordCall) → is_answered w (word c) ≡ true → (next w (word c)).pod.words ≡ (heard_in w c).words
word_leaves w c a = on (happens w (word c)) (answered_clear w (word c) a)
  where
    on : {s : Stepped} → Happens w (word c) s → Clear (rows_of w (word c)) → s.world.pod.words ≡ (heard_in w c).words
    on (by_rows d n f) k = never_both f k
    on (by_word d k) q = (as_heard d w.pod.initialised w.pod.words (desk_in w.lent)).words

pub places-only : PlacesOnly
places-only w c a =
    let so = word_leaves w c a in
    (ap (λ (x : Words). x.places) so, ap (λ (x : Words). x.given) so)
