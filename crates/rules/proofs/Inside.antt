-- The bounds of the state as facts, tied to the test once; and a pod within them, with one part changed.
-- Assumes nothing.
use native.Mathlib.Omega.{arith}
use mathlib.Core.Path.{◌≡◌, refl}
use mathlib.Core.Bool.{Bool, true, false, not, ◌&&◌}
use Rattle.std.specs.Prelude.{ℕ, Option}
use Rattle.rows.proofs.Bool.{split, never, and_left, and_right, and_both, or-true, not-true}
use Rattle.blocks.specs.declared.Store.{Store}
use Rattle.blocks.specs.declared.Store.TheVariants.{Priority, Ordinary}
use Rattle.blocks.specs.declared.Ring.{Ring}
use Rattle.blocks.specs.Stores.{capacity_of, sound_ring}
use Rattle.blocks.proofs.Laws.{empty_sound}
use Rattle.packets.specs.declared.Fields.{Fields}
use Rattle.packets.specs.Commands.{fields_bounded}
use Rattle.params.specs.declared.Params.{Params}
use Rattle.params.specs.Rules.{sound_params}
use Rattle.params.proofs.Inside.{start_sound as params-start}
use Rattle.tables.specs.declared.Transfer.{Transfer}
use Rattle.tables.specs.declared.Transfer.TheVariants.{Idle, Address, Load, Read as Reads}
use Rattle.tables.specs.declared.Words.{Words}
use Rattle.tables.specs.Bounds.{sound_words}
use Rattle.tables.specs.Port.{is_open, with_given, start_words}
use Rattle.tables.proofs.Kept.{start_sound as words-start}
use Rattle.pipe.specs.declared.Pipe.{Pipe}
use Rattle.pipe.specs.Pipe.{sound_pipe}
use Rattle.pipe.proofs.Laws.{fresh_sound}
use Rattle.rules.specs.declared.Exchange.{Exchange}
use Rattle.rules.specs.declared.Exchange.TheVariants.{Closed, Status, Read, Receive}
use Rattle.rules.specs.declared.Pod.{Pod}
use Rattle.rules.specs.State.{with_initialised, with_fields, with_params, with_exchange, with_words, with_ring, with_pipe, ring_of, is_closed, fresh_fields, fresh_pod, restful, sound_pod}
use Rattle.rules.specs.Obey.{shut}

-- the bounds, one by one
pub record PodIn (p : Pod) : Type 0 where
  pub priority : sound_ring (capacity_of Priority) p.priority ≡ true
  pub ordinary : sound_ring (capacity_of Ordinary) p.ordinary ≡ true
  pub params : sound_params p.params ≡ true
  pub fields : fields_bounded p.fields ≡ true
  pub pipe : sound_pipe p.pipe ≡ true
  pub words : sound_words p.words ≡ true
  pub rest : restful p ≡ true

pub in_pod : {p : Pod} → PodIn p → sound_pod p ≡ true
unfolding sound_pod
in_pod h =
    and_both h.priority (and_both h.ordinary (and_both h.params (and_both h.fields (and_both h.pipe (and_both h.words h.rest)))))

pub pod_in : (p : Pod) → sound_pod p ≡ true → PodIn p
unfolding sound_pod
pod_in p h =
    let a = sound_ring (capacity_of Priority) p.priority in
    let b = sound_ring (capacity_of Ordinary) p.ordinary in
    let c = sound_params p.params in
    let d = fields_bounded p.fields in
    let e = sound_pipe p.pipe in
    let f = sound_words p.words in
    let g = restful p in
    let h₁ = and_right a (b && (c && (d && (e && (f && g))))) h in
    let h₂ = and_right b (c && (d && (e && (f && g)))) h₁ in
    let h₃ = and_right c (d && (e && (f && g))) h₂ in
    let h₄ = and_right d (e && (f && g)) h₃ in
    let h₅ = and_right e (f && g) h₄ in
    record {
      priority = and_left a (b && (c && (d && (e && (f && g))))) h;
      ordinary = and_left b (c && (d && (e && (f && g)))) h₁;
      params = and_left c (d && (e && (f && g))) h₂;
      fields = and_left d (e && (f && g)) h₃;
      pipe = and_left e (f && g) h₄;
      words = and_left f g h₅;
      rest = and_right f g h₅;
    }

-- the ring of either store is sound
pub ring_in : {p : Pod} → PodIn p → (s : Store) → sound_ring (capacity_of s) (ring_of s p) ≡ true
ring_in h Priority = h.priority
ring_in h Ordinary = h.ordinary

-- ---- while not initialised

idle_is : (t : Transfer) → is_open t ≡ false → t ≡ Idle
idle_is Idle h = refl
idle_is Address h = never refl h
idle_is (Load t k) h = never refl h
idle_is (Reads t k at) h = never refl h

closed_is : (x : Exchange) → is_closed x ≡ true → x ≡ Closed
closed_is Closed h = refl
closed_is Status h = never h refl
closed_is Read h = never h refl
closed_is (Receive s) h = never h refl

module _ (p : Pod) (h : PodIn p) (off : p.initialised ≡ false) where
  at_rest : (is_closed p.exchange && not (is_open p.words.transfer)) ≡ true
  unfolding restful
  at_rest = rw off at h.rest

  -- no exchange is open
  pub off_closed : p.exchange ≡ Closed
  off_closed = closed_is p.exchange (and_left (is_closed p.exchange) (not (is_open p.words.transfer)) at_rest)

  -- and no transfer
  pub off_still : p.words.transfer ≡ Idle
  off_still = idle_is p.words.transfer (not-true (and_right (is_closed p.exchange) (not (is_open p.words.transfer)) at_rest))

-- ---- the state with one part changed

module _ {p : Pod} (h : PodIn p) where
  -- no exchange
  pub in_shut : PodIn (shut p)
  unfolding restful
  in_shut =
      record { priority = h.priority; ordinary = h.ordinary; params = h.params; fields = h.fields; pipe = h.pipe; words = h.words; rest = split p.initialised (λ e. rw e) (λ e. rw (e, off_still p h e)) }

  -- any exchange, while initialised
  pub in_open : (x : Exchange) → p.initialised ≡ true → PodIn (with_exchange x p)
  unfolding restful
  in_open x on =
      record { priority = h.priority; ordinary = h.ordinary; params = h.params; fields = h.fields; pipe = h.pipe; words = h.words; rest = rw on }

  -- fields within their bounds
  pub in_fields : (f : Fields) → fields_bounded f ≡ true → PodIn (with_fields f p)
  unfolding restful
  in_fields f k =
      record { priority = h.priority; ordinary = h.ordinary; params = h.params; fields = k; pipe = h.pipe; words = h.words; rest = h.rest }

  -- sound parameters
  pub in_params : (q : Params) → sound_params q ≡ true → PodIn (with_params q p)
  unfolding restful
  in_params q k =
      record { priority = h.priority; ordinary = h.ordinary; params = k; fields = h.fields; pipe = h.pipe; words = h.words; rest = h.rest }

  -- a sound ring
  pub in_ring : (s : Store) (r : Ring) → sound_ring (capacity_of s) r ≡ true → PodIn (with_ring s r p)
  unfolding restful
  in_ring Priority r k =
      record { priority = k; ordinary = h.ordinary; params = h.params; fields = h.fields; pipe = h.pipe; words = h.words; rest = h.rest }
  in_ring Ordinary r k =
      record { priority = h.priority; ordinary = k; params = h.params; fields = h.fields; pipe = h.pipe; words = h.words; rest = h.rest }

  -- a sound pipe
  pub in_pipe : (i : Pipe) → sound_pipe i ≡ true → PodIn (with_pipe i p)
  unfolding restful
  in_pipe i k =
      record { priority = h.priority; ordinary = h.ordinary; params = h.params; fields = h.fields; pipe = k; words = h.words; rest = h.rest }

  -- other words, with no transfer open while not initialised
  pub in_words : (v : Words) → sound_words v ≡ true → (p.initialised ≡ false → v.transfer ≡ Idle) → PodIn (with_words v p)
  unfolding restful
  in_words v k still =
      record { priority = h.priority; ordinary = h.ordinary; params = h.params; fields = h.fields; pipe = h.pipe; words = k; rest = split p.initialised (λ e. rw e) (λ e. rw (e, still e, off_closed p h e)) }

  -- not initialised, with no exchange and no transfer open
  pub in_sleep : p.exchange ≡ Closed → p.words.transfer ≡ Idle → PodIn (with_initialised false p)
  unfolding restful
  in_sleep none still =
      record { priority = h.priority; ordinary = h.ordinary; params = h.params; fields = h.fields; pipe = h.pipe; words = h.words; rest = rw (none, still) }

-- as from power: initialised or not, with any fields within their bounds and any given address
pub anew_in : (b : Bool) (f : Fields) (g : Option ℕ) → fields_bounded f ≡ true
    → PodIn (with_words (with_given g fresh_pod.words) (with_fields f (with_initialised b fresh_pod)))
unfolding fresh_pod restful start_words sound_words
anew_in b f g k =
    record { priority = empty_sound 16 (omega arith); ordinary = empty_sound 128 (omega arith); params = params-start; fields = k; pipe = fresh_sound; words = words-start; rest = or-true b }

-- the fresh pod is within its bounds
pub fresh_in : PodIn fresh_pod
unfolding fresh_pod fresh_fields fields_bounded
fresh_in = anew_in false fresh_fields _ refl
