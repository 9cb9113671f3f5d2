-- Whether the pod is initialised, its open exchange and its fields are those of the history.
-- Assumes nothing.
use Prim.Native.Nat.{ℕ, ◌-◌}
use native.Mathlib.Omega.{arith}
use mathlib.Core.Path.{◌≡◌, refl, ap, ◌∙◌}
use mathlib.Core.Bool.{Bool, true, false, cond}
use mathlib.Core.List.{List}
use lib.Dec.{eqb}
use borrow.Author.Tests.{ne_eqb}
use Rattle.rows.proofs.Bool.{by-test}
use Rattle.blocks.specs.declared.Store.{Store}
use Rattle.blocks.specs.declared.Store.TheVariants.{Priority, Ordinary}
use Rattle.blocks.specs.declared.Ring.{Ring}
use Rattle.blocks.specs.Stores.{put_ring}
use Rattle.blocks.proofs.Laws.{put_counts}
use Rattle.packets.specs.declared.Fields.{Fields}
use Rattle.rules.specs.declared.Exchange.{Exchange}
use Rattle.rules.specs.declared.Exchange.TheVariants.{Closed, Status, Read, Receive}
use Rattle.rules.specs.declared.Pod.{Pod}
use Rattle.rules.specs.State.{Lent, with_ring, with_remaining, ring_of, remaining_of, fresh_pod}
use Rattle.rules.specs.Obey.{initialised_pod, done_by, drop_from, acknowledged_of}
use Rattle.rules.specs.World.{World, Call, final, powered}
use Rattle.rules.specs.History.{lone_as, Event, hears_acknowledgement, events, fold, awake_by, exchange_by, same_store, acknowledged as acknowledged_by, less_by, fields_by, Fielded, fresh_fielded, fielded_by}
use Rattle.rules.specs.Replies.{awake_from}
use Rattle.rules.proofs.Eventful.{Eventful, quiet, anew, initialised, slept, updated, wrote, began, closed, acknowledged, shelved, spoken, touched, Waits}
use Rattle.rules.proofs.Histories.{Keeps, history, powered_fresh}
use Rattle.rules.proofs.Untouched.{acknowledged_untouched}
use Rattle.rules.proofs.Stores.{of_changed}
use Rattle.rules.proofs.Settling.{Settles, keeps, drops, settles}

-- ---- awake

awake_kept : Keeps awake_by (λ w b. w.pod.initialised ≡ b)
unfolding awake_by done_by initialised_pod fresh_pod
awake_kept w _ _ quiet b h = h
awake_kept w _ _ anew b h = refl
awake_kept w _ _ (initialised f) b h = refl
awake_kept w _ _ (slept on) b h = refl
awake_kept w _ _ (updated f) b h = h
awake_kept w _ _ (wrote id v k) b h = h
awake_kept w _ _ (began x on k) b h = h
awake_kept w _ _ closed b h = h
awake_kept w _ _ (acknowledged first one k) b h = (acknowledged_untouched first one w.pod).initialised ∙ h
awake_kept w _ _ (shelved s q k) b h = h
awake_kept w _ _ (spoken c k) b h = h
awake_kept w _ _ (touched c k) b h = h

pub awake_is : (l : Lent) (cs : List Call) → (final (powered l) cs).pod.initialised ≡ awake_from (events (powered l) cs)
unfolding fresh_pod
awake_is l cs = history awake_by (λ w b. w.pod.initialised ≡ b) awake_kept cs (powered l) false (ap (λ (p : Pod). p.initialised) (powered_fresh l))

-- ---- the open exchange, with the block of a receive waiting

pub record Opened (w : World) (x : Exchange) : Type 0 where
  pub exchange : w.pod.exchange ≡ x
  pub waits : Waits w.pod.exchange w.pod

-- where one more block waits, the block of an open receive waits still
more_waits : (x : Exchange) (s : Store) (p : Pod) → Waits x p → Waits x (with_ring s (put_ring (ring_of s p)) p)
more_waits Closed s p h = tt
more_waits Status s p h = tt
more_waits Read s p h = tt
more_waits (Receive r) s p h = (
  rw (of_changed (λ t. put_ring (ring_of t p)) r s p.priority p.ordinary)
      (by-test (λ (q : Ring). eqb q.waiting 0 ≡ false) (same_store r s)
      (λ e. ne_eqb (put_ring (ring_of r p)).waiting 0 (λ z. omega (arith, put_counts (ring_of r p)))) (λ e. h.0)),
  h.1,
)

-- closed, none is asked to
waits_unless : (b : Bool) (x : Exchange) (p : Pod) → Waits x p → Waits (cond b Closed x) p
waits_unless true x p h = tt
waits_unless false x p h = h

pub exchange_kept : Keeps exchange_by Opened
unfolding exchange_by acknowledged_of done_by initialised_pod fresh_pod
exchange_kept w _ _ quiet x h = h
exchange_kept w _ _ anew x h = record { exchange = refl; waits = tt }
exchange_kept w _ _ (initialised f) x h = record { exchange = refl; waits = tt }
exchange_kept w _ _ (slept on) x h = record { exchange = refl; waits = tt }
exchange_kept w _ _ (updated f) x h = record { exchange = refl; waits = tt }
exchange_kept w _ _ (wrote id v k) x h = record { exchange = refl; waits = tt }
exchange_kept w _ _ (began y on k) x h = record { exchange = refl; waits = k }
exchange_kept w _ _ closed x h = record { exchange = refl; waits = tt }
exchange_kept w _ _ (acknowledged first one k) x h = record { exchange = refl; waits = tt }
exchange_kept w _ _ (shelved s b k) x h = record { exchange = h.exchange; waits = more_waits w.pod.exchange s w.pod h.waits }
exchange_kept w _ _ (spoken c k) x h = record { exchange = h.exchange; waits = h.waits }
exchange_kept w _ _ (touched c k) x h = record { exchange = ap (λ y. cond (lone_as c).closes Closed y) h.exchange; waits = waits_unless (lone_as c).closes w.pod.exchange w.pod h.waits }

pub fresh_opened : (l : Lent) → Opened (powered l) Closed
unfolding fresh_pod
fresh_opened l = record { exchange = ap (λ (p : Pod). p.exchange) (powered_fresh l); waits = rw (powered_fresh l) tt }

-- ---- the fields

-- of the two remainings that of the store falls
less_one : (s : Store) (first : ℕ) (one : Bool) (x : Exchange) (f : Fields)
    → ((r : Store) → acknowledged_by r first one x ≡ same_store r s)
    → with_remaining s (remaining_of s f - 1) f ≡ less_by (λ (r : Store). acknowledged_by r first one x) f
less_one Priority first one x f h = rw (h Priority, h Ordinary)
less_one Ordinary first one x f h = rw (h Priority, h Ordinary)

none_less : (first : ℕ) (one : Bool) (x : Exchange) (f : Fields) → ((r : Store) → acknowledged_by r first one x ≡ false)
    → f ≡ less_by (λ (r : Store). acknowledged_by r first one x) f
none_less first one x f h = rw (h Priority, h Ordinary)

settled-fields : {p q : Pod} {first : ℕ} {one : Bool} {x : Exchange} → Settles p first one x q
    → q.fields ≡ fields_by (hears_acknowledgement first one) x p.fields
unfolding fields_by drop_from
settled-fields {p} {q} {first} {one} {x} (keeps h) = none_less first one x p.fields h
settled-fields {p} {q} {first} {one} {x} (drops s a b h) = rw (a, b) (less_one s first one x p.fields h)

fields-kept : (w v : World) (e : Event) → Eventful w e v → (x : Exchange) (f : Fields) → Opened w x → w.pod.fields ≡ f → v.pod.fields ≡ fields_by e x f
unfolding fields_by done_by initialised_pod fresh_pod
fields-kept w _ _ quiet x f o h = h
fields-kept w _ _ anew x f o h = refl
fields-kept w _ _ (initialised g) x f o h = refl
fields-kept w _ _ (slept on) x f o h = h
fields-kept w _ _ (updated g) x f o h = refl
fields-kept w _ _ (wrote id v k) x f o h = h
fields-kept w _ _ (began y on k) x f o h = h
fields-kept w _ _ closed x f o h = h
fields-kept w _ _ (acknowledged first one k) x f o h = rw (← o.exchange, ← h) (settled-fields (settles first one w.pod o.waits))
fields-kept w _ _ (shelved s b k) x f o h = h
fields-kept w _ _ (spoken c k) x f o h = h
fields-kept w _ _ (touched c k) x f o h = h

abbrev FieldedAs : World → Fielded → Type 0
FieldedAs w a = Opened w a.exchange × (w.pod.fields ≡ a.fields)

fielded-kept : Keeps fielded_by FieldedAs
fielded-kept w v e k a h = (exchange_kept w v e k a.exchange h.0, fields-kept w v e k a.exchange a.fields h.0 h.1)

pub fields_are : (l : Lent) (cs : List Call) → (final (powered l) cs).pod.fields ≡ (fold fielded_by fresh_fielded (events (powered l) cs)).fields
unfolding fresh_pod
fields_are l cs =
    (history fielded_by FieldedAs fielded-kept cs (powered l) fresh_fielded (fresh_opened l, ap (λ (p : Pod). p.fields) (powered_fresh l))).1
