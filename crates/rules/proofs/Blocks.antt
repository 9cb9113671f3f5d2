-- The blocks that wait in a store are the history's: those put since the beginning less those acknowledged.
-- Assumes nothing.
use Prim.Native.Nat.{ℕ}
use mathlib.Core.Path.{◌≡◌, refl, ap, ◌∙◌}
use mathlib.Core.Bool.{Bool, cond}
use mathlib.Core.List.{List, [], ◌∷◌, ◌++◌}
use Rattle.rows.specs.Rows.{Clear}
use Rattle.rows.proofs.Bool.{split}
use Rattle.blocks.specs.declared.Store.{Store}
use Rattle.blocks.specs.Stores.{capacity_of, empty_ring, blocks_in, put_ring, put_store, dropped_ring}
use Rattle.blocks.proofs.Laws.{none_waiting, drop_takes, put_appends}
use Rattle.rules.specs.declared.Exchange.{Exchange}
use Rattle.rules.specs.declared.Pod.{Pod}
use Rattle.rules.specs.State.{Lent, ring_of, store_in, fresh_pod}
use Rattle.rules.specs.Obey.{initialised_pod, done_by, drop_from}
use Rattle.rules.specs.World.{World, put, rows_of, powered}
use Rattle.rules.specs.History.{Event, hears_acknowledgement, same_store, Waiting, nothing_waits, blocks_by, waiting_by}
use Rattle.rules.specs.Demands.{BlocksAreHistory}
use Rattle.rules.proofs.Happens.{putting}
use Rattle.rules.proofs.Eventful.{Eventful, quiet, anew, initialised, slept, updated, wrote, began, closed, acknowledged, shelved, spoken, touched}
use Rattle.rules.proofs.Histories.{Keeps, history, powered_fresh}
use Rattle.rules.proofs.Stores.{of_both, of_changed, of_changed_two, same_is}
use Rattle.rules.proofs.Inside.{pod_in, ring_in}
use Rattle.rules.proofs.Fits.{PutFits, put_fits}
use Rattle.rules.proofs.Settling.{Settles, keeps, drops, settles}
use Rattle.rules.proofs.Holds.{Opened, exchange_kept, fresh_opened}

abbrev pub waiting_in : Store → World → List (List ℕ)
waiting_in s w = blocks_in (capacity_of s) (ring_of s w.pod) (store_in s w.lent)

-- no block waits in an empty store
none_wait : (s : Store) (l : Lent) → blocks_in (capacity_of s) (ring_of s fresh_pod) (store_in s l) ≡ []
unfolding fresh_pod
none_wait s l = rw (of_both s empty_ring) (none_waiting (capacity_of s) empty_ring (store_in s l) refl)

-- a put joins the blocks of its store, behind the others, and leaves those of the other store
blocks_put : (s r : Store) (b : List ℕ) (w : World) → Clear (rows_of w (put r b))
    → waiting_in s (putting r b w).world ≡ cond (same_store s r) (waiting_in s w ++ (b ∷ [])) (waiting_in s w)
blocks_put s r b w k =
    of_changed_two (λ t q l. blocks_in (capacity_of t) q l) (λ t. put_ring (ring_of t w.pod))
    (λ t. put_store (capacity_of t) (ring_of t w.pod) (store_in t w.lent) b) s r w.pod.priority w.pod.ordinary w.lent.priority w.lent.ordinary
    ∙ split (same_store s r)
    (λ e.
    let fits : PutFits s b w = rw (← (same_is s r e)) at (put_fits r b w k) in
    rw e (put_appends (capacity_of s) (ring_of s w.pod) (store_in s w.lent) b (ring_in (pod_in w.pod fits.sound) s) fits.free fits.store fits.block))
    (λ e. rw e)

-- an acknowledgement takes the first away of the store that it acknowledges
blocks_settled : (s : Store) {p q : Pod} {first : ℕ} {one : Bool} {x : Exchange} → Settles p first one x q → (l : List ℕ)
    → blocks_in (capacity_of s) (ring_of s q) l ≡ blocks_by s (hears_acknowledgement first one) x (blocks_in (capacity_of s) (ring_of s p) l)
unfolding blocks_by drop_from
blocks_settled s (keeps h) l = rw (h s)
blocks_settled s {p} (drops r a b h) l =
    rw (a, b, h s, of_changed (λ t. dropped_ring (capacity_of t) (ring_of t p)) s r p.priority p.ordinary)
    (split (same_store s r) (λ e. rw e (drop_takes (capacity_of s) (ring_of s p) l)) (λ e. rw e))

module _ (s : Store) where
  blocks_kept : (w v : World) (e : Event) → Eventful w e v → (x : Exchange) (q : List (List ℕ)) → Opened w x → waiting_in s w ≡ q
      → waiting_in s v ≡ blocks_by s e x q
  unfolding blocks_by done_by initialised_pod
  blocks_kept w _ _ quiet x q o h = h
  blocks_kept w _ _ anew x q o h = none_wait s w.lent
  blocks_kept w _ _ (initialised f) x q o h = none_wait s w.lent
  blocks_kept w _ _ (slept on) x q o h = h
  blocks_kept w _ _ (updated f) x q o h = h
  blocks_kept w _ _ (wrote id v k) x q o h = h
  blocks_kept w _ _ (began y on k) x q o h = h
  blocks_kept w _ _ closed x q o h = h
  blocks_kept w _ _ (acknowledged first one k) x q o h =
      rw (← o.exchange, ← h) (blocks_settled s (settles first one w.pod o.waits) (store_in s w.lent))
  blocks_kept w _ _ (shelved r b k) x q o h = rw (← h) (blocks_put s r b w k)
  blocks_kept w _ _ (spoken c k) x q o h = h
  blocks_kept w _ _ (touched c k) x q o h = h

  abbrev WaitingAs : World → Waiting → Type 0
  WaitingAs w a = Opened w a.exchange × (waiting_in s w ≡ a.blocks)

  waiting_kept : Keeps (waiting_by s) WaitingAs
  waiting_kept w v e k a h = (exchange_kept w v e k a.exchange h.0, blocks_kept w v e k a.exchange a.blocks h.0 h.1)

pub blocks_are_history : BlocksAreHistory
blocks_are_history s l cs =
    (history (waiting_by s) (WaitingAs s) (waiting_kept s) cs (powered l) nothing_waits
    (fresh_opened l, ap (λ (p : Pod). blocks_in (capacity_of s) (ring_of s p) (store_in s (powered l).lent)) (powered_fresh l) ∙ none_wait s (powered l).lent)).1
