-- Demand 2: ".. and no other": which calls change the tables, and to what.
-- Assumes nothing.
use mathlib.Core.Path.{◌≡◌, refl}
use Rattle.rules.specs.State.{desk_in}
use Rattle.rules.specs.Obey.{done_by}
use Rattle.rules.specs.World.{World}
use Rattle.rules.specs.History.{Event}
use Rattle.rules.specs.Transfers.{tables_by}
use Rattle.rules.specs.Demands.{TablesOnly}
use Rattle.rules.proofs.Happens.{happens}
use Rattle.rules.proofs.Eventful.{Eventful, quiet, anew, initialised, slept, updated, wrote, began, closed, acknowledged, shelved, spoken, touched, eventful}
use Rattle.rules.proofs.Heard.{as_heard}

event_tables : (w v : World) (e : Event) → Eventful w e v
    → v.lent.tables ≡ tables_by e w.pod.initialised w.pod.words (desk_in w.lent)
unfolding tables_by done_by
event_tables w _ _ quiet = refl
event_tables w _ _ anew = refl
event_tables w _ _ (initialised f) = refl
event_tables w _ _ (slept a) = refl
event_tables w _ _ (updated f) = refl
event_tables w _ _ (wrote id v k) = refl
event_tables w _ _ (began x a k) = refl
event_tables w _ _ closed = refl
event_tables w _ _ (acknowledged first one k) = refl
event_tables w _ _ (shelved s b k) = refl
event_tables w _ _ (spoken c k) = (as_heard c w.pod.initialised w.pod.words (desk_in w.lent)).tables
event_tables w _ _ (touched c k) = refl

pub tables_only : TablesOnly
tables_only w c = event_tables w _ _ (eventful (happens w c))
