-- Two worlds with one pod and the same table words, whose stores and load may hold other bytes but have the same blocks waiting and
-- the same words of an open load: every call tells the same in both, and leaves two such worlds.
-- Assumes nothing.
use Prim.Native.Nat.{ℕ, ◌-◌}
use mathlib.Core.Path.{◌≡◌, refl, sym, ap, ap₂, ◌∙◌}
use mathlib.Core.Bool.{Bool, true, ◌||◌}
use mathlib.Core.List.{List, [], ◌∷◌, ◌++◌}
use lib.Dec.{eqb}
use lib.ListN.{length}
use Rattle.rows.specs.Rows.{Row, Clear, Said, refused, gave, Out, out, given}
use Rattle.rows.proofs.Bool.{by-test, not-false}
use Rattle.rows.proofs.Laws.{clear_head, clear_rest, ran-two}
use Rattle.blocks.specs.declared.Store.{Store}
use Rattle.blocks.specs.declared.Store.TheVariants.{Priority, Ordinary}
use Rattle.blocks.specs.declared.Ring.{Ring}
use Rattle.blocks.specs.Stores.{capacity_of, store_sized, blocks_in, empty_ring, put_ring, put_store, dropped_ring}
use Rattle.blocks.proofs.Laws.{none_waiting, put_length, twin_put, twin_drop, twin_oldest}
use Rattle.packets.specs.declared.Command.{Command}
use Rattle.packets.specs.declared.Command.TheVariants as asked
use Rattle.packets.specs.declared.Parsed.{Parsed}
use Rattle.packets.specs.declared.Parsed.TheVariants.{Nothing, Error, Acknowledgement, Asked}
use Rattle.packets.specs.Commands.{command_row}
use Rattle.packets.specs.Reading.{packet_read}
use Rattle.packets.specs.Answers.{answer_of}
use Rattle.tables.specs.declared.Words.{Words}
use Rattle.tables.specs.Tables.{Three, starts}
use Rattle.tables.specs.Port.{Desk, desk, start_words, close_of}
use Rattle.rules.specs.declared.Exchange.{Exchange}
use Rattle.rules.specs.declared.Exchange.TheVariants.{Closed, Status, Read, Receive}
use Rattle.rules.specs.declared.Pod.{Pod}
use Rattle.rules.specs.State.{with_fields, with_words, with_ring, ring_of, remaining_of, with_remaining, fresh_pod, sound_pod, Lent, store_in, with_store, with_tables, with_desk}
use Rattle.rules.specs.Obey.{Meant, success, report, value, block, shut, initialised_pod, checks_of, done_by, obey_of, matches, drop_from, settled, acknowledged_of}
use Rattle.rules.specs.Refusals.{Giving, all_row, state_row}
use Rattle.rules.specs.Families.{WordCall, word_lent}
use Rattle.rules.specs.Calls.{power_call, Spoken, silent, says, replied, packet_heard, meant_body, reply_bytes, spoken_bytes, answered, packet_call, put_call, word_rows, worded, word_call, lone_call, samples_call}
use Rattle.rules.specs.World.{World, world, Call, power, packet, put, word, lone, samples, Told, Stepped, over_tables, over_room, over_store, over_desk, over_sent, over_frames, step, rows_of, Point, point, run}
use Rattle.rules.proofs.Stores.{store_same}
use Rattle.rules.proofs.Happens.{putting, wording}
use Rattle.rules.proofs.Inside.{pod_in, ring_in}
use Rattle.rules.proofs.Fits.{PutFits, put_fits}
use Rattle.tables.proofs.Stale.{gathered as came_of}
use Rattle.rules.proofs.WordsAlike.{Gathered, none_came, SameDesk, same-desk}
use Rattle.rules.proofs.Fares.{fares}

-- ---- one store

-- two stores of one size in which the same blocks wait
pub record Holds (s : Store) (r : Ring) (x y : List ℕ) : Type 0 where
  pub size : length x ≡ length y
  pub blocks : blocks_in (capacity_of s) r x ≡ blocks_in (capacity_of s) r y

-- emptied, they may hold anything
pub emptied : (s : Store) {x y : List ℕ} → length x ≡ length y → Holds s empty_ring x y
emptied s {x} {y} h =
    record { size = h; blocks = none_waiting (capacity_of s) empty_ring x refl ∙ sym (none_waiting (capacity_of s) empty_ring y refl) }

-- ---- what is lent

-- the same blocks wait in either store, and the same k words of a load have come
pub record Held (r o : Ring) (k : ℕ) (l m : Lent) : Type 0 where
  pub priority : Holds Priority r l.priority m.priority
  pub ordinary : Holds Ordinary o l.ordinary m.ordinary
  pub load : Gathered k l.load m.load

abbrev pub Alike : Pod → Lent → Lent → Type 0
Alike p l m = Held p.priority p.ordinary (came_of p.words.transfer) l m

module _ (p : Pod) {l m : Lent} (h : Alike p l m) where
  -- of either store
  held : (s : Store) → Holds s (ring_of s p) (store_in s l) (store_in s m)
  held Priority = h.priority
  held Ordinary = h.ordinary

  -- one ring and its store changed
  with_held : (s : Store) (r : Ring) (x y : List ℕ) → Holds s r x y → Alike (with_ring s r p) (with_store s x l) (with_store s y m)
  with_held Priority r x y k = record { priority = k; ordinary = h.ordinary; load = h.load }
  with_held Ordinary r x y k = record { priority = h.priority; ordinary = k; load = h.load }

  -- its ring alone
  ringed : (s : Store) (r : Ring) → Holds s r (store_in s l) (store_in s m) → Alike (with_ring s r p) l m
  ringed s r k = rw (store_same s l, store_same s m) at (with_held s r (store_in s l) (store_in s m) k)

  -- everything cleared
  cleared : Held empty_ring empty_ring 0 l m
  cleared = record { priority = emptied Priority h.priority.size; ordinary = emptied Ordinary h.ordinary.size; load = none_came 0 refl h.load.long }

  -- a put that is not refused
  added : (s : Store) (b : List ℕ) → PutFits s b (world p l)
      → Alike (with_ring s (put_ring (ring_of s p)) p) (with_store s (put_store (capacity_of s) (ring_of s p) (store_in s l) b) l)
      (with_store s (put_store (capacity_of s) (ring_of s p) (store_in s m) b) m)
  added s b f =
      let n = capacity_of s in
      let r = ring_of s p in
      let x = store_in s l in
      let y = store_in s m in
      let k = held s in
      let ok = ring_in (pod_in p f.sound) s in
      with_held s (put_ring r) (put_store n r x b) (put_store n r y b)
      (record {
        size = put_length n r x b ∙ k.size ∙ sym (put_length n r y b);
        blocks = twin_put n r x y k.blocks b ok f.free f.store (sym k.size ∙ f.store) f.block;
      })

-- ---- the acknowledgement

module _ (l m : Lent) where
  abbrev So : Pod → Type 0
  So p = Alike p l m

  drop_alike : (s : Store) (p : Pod) → Alike p l m → Alike (drop_from s p) l m
  unfolding drop_from
  drop_alike s p h =
      let n = capacity_of s in
      let k = held p h s in
      let f = with_remaining s (remaining_of s p.fields - 1) p.fields in
      by-test So (eqb (ring_of s p).waiting 0 || eqb (remaining_of s p.fields) 0) (λ e. h)
      (λ e.
      ringed (with_fields f p) h s (dropped_ring n (ring_of s p))
      (record { size = k.size; blocks = twin_drop n (ring_of s p) (store_in s l) (store_in s m) k.blocks }))

  settled_alike : (x : Exchange) (p : Pod) → Alike p l m → Alike (settled x p) l m
  unfolding settled
  settled_alike Closed p h = h
  settled_alike Status p h = h
  settled_alike Read p h = h
  settled_alike (Receive s) p h = drop_alike s p h

  acknowledged_alike : (first : ℕ) (one : Bool) (p : Pod) → Alike p l m → Alike (acknowledged_of first one p) l m
  unfolding acknowledged_of
  acknowledged_alike first one p h = by-test So (matches first one p.exchange) (λ e. settled_alike p.exchange p h) (λ e. h)

-- ---- a table word

-- where no row of a table word holds, the pod is sound
sound_word : (c : WordCall) (t : Three) (p : Pod) → Clear (word_rows c t p) → sound_pod p ≡ true
sound_word c t p k = on (word_lent c t) k
  where
    on : (rs : List Row) → Clear (rs ++ (state_row p ∷ [])) → sound_pod p ≡ true
    on [] k = not-false (clear_head k)
    on (r ∷ rs) k = on rs (clear_rest k)

-- ---- what an answer shows

-- of the stores none but the first of the waiting blocks
module _ (p : Pod) (l m : Lent) (h : Alike p l m) where
  meant_same : (x : Meant) → meant_body x p l ≡ meant_body x p m
  unfolding meant_body
  meant_same success = refl
  meant_same report = refl
  meant_same (value id v) = refl
  meant_same (block s) = twin_oldest (capacity_of s) (ring_of s p) (store_in s l) (store_in s m) (held p h s).blocks

  reply-same : (first : ℕ) (r : Said Meant) → reply_bytes first r p l ≡ reply_bytes first r p m
  unfolding reply_bytes
  reply-same first (refused n) = refl
  reply-same first (gave x) = ap (answer_of first 0x01) (meant_same x)

  spoken-same : (x : Spoken) → spoken_bytes x p l ≡ spoken_bytes x p m
  unfolding spoken_bytes
  spoken-same silent = refl
  spoken-same (says first r) = reply-same first r

-- ---- two worlds

pub data Twin : World → World → Type 0 where
  twin : (p : Pod) (l m : Lent) → Alike p l m → Twin (world p l) (world p (with_tables l.tables m))

-- two calls tell the same, leave the same table words, and leave twins
pub record Same (s r : Stepped) : Type 0 where
  pub points : point s ≡ point r
  pub twins : Twin s.world r.world

module _ (p : Pod) (l m : Lent) (h : Alike p l m) where
  abbrev w₁ : World
  w₁ = world p l

  abbrev w₂ : World
  w₂ = world p (with_tables l.tables m)

  -- what leaves the stores and the load alone
  alone : {a : Told} (q : Pod) (t : Three) → Alike q l m
      → Same (record { told = a; world = world q (with_tables t l) }) (record { told = a; world = world q (with_tables t m) })
  alone q t k =
      record { points = refl; twins = twin q (with_tables t l) m (record { priority = k.priority; ordinary = k.ordinary; load = k.load }) }

  same : {a : Told} → Same (record { told = a; world = w₁ }) (record { told = a; world = w₂ })
  same = alone p l.tables h

  -- ---- a packet that is not refused
  module _ (room : List ℕ) where
    answer-same : (x : Spoken) (q : Pod) (t : Three) → Alike q l m
        → Same (over_room (given (answered (out x q (with_tables t l)) room)) w₁) (over_room (given (answered (out x q (with_tables t m)) room)) w₂)
    unfolding answered
    answer-same x q t k =
        let c : Alike q (with_tables t l) (with_tables t m) = record { priority = k.priority; ordinary = k.ordinary; load = k.load } in
        rw (spoken-same q (with_tables t l) (with_tables t m) c x) (alone q t k)

    obeyed-same : (c : Command) → Clear (checks_of c (shut p)) → (first : ℕ)
        → Same (over_room (given (answered (replied first (given (done_by c l (shut p)))) room)) w₁)
        (over_room (given (answered (replied first (given (done_by c (with_tables l.tables m) (shut p)))) room)) w₂)
    unfolding done_by initialised_pod fresh_pod start_words close_of
    obeyed-same (asked.Initialise f) k first = answer-same (says first _) _ starts (cleared p h)
    obeyed-same asked.Status k first = answer-same (says first _) _ l.tables h
    obeyed-same (asked.Update f) k first = answer-same (says first _) _ l.tables h
    obeyed-same (asked.Write id v) k first = answer-same (says first _) _ l.tables h
    obeyed-same (asked.Read id) k first = answer-same (says first _) _ l.tables h
    obeyed-same asked.Priority k first = answer-same (says first _) _ l.tables h
    obeyed-same asked.Data k first = answer-same (says first _) _ l.tables h
    obeyed-same asked.Shutdown k first =
        answer-same (says first _) _ l.tables (record { priority = h.priority; ordinary = h.ordinary; load = none_came 0 refl h.load.long })

    heard-same : (r : Parsed)
        → Same (over_room (given (answered (packet_heard r l p) room)) w₁) (over_room (given (answered (packet_heard r (with_tables l.tables m) p) room)) w₂)
    unfolding packet_heard obey_of
    heard-same Nothing = answer-same silent p l.tables h
    heard-same (Error first n) = answer-same (says first (refused n)) (shut p) l.tables h
    heard-same (Acknowledgement first one) = answer-same silent (acknowledged_of first one p) l.tables (acknowledged_alike l m first one p h)
    heard-same (Asked c) =
        let first = (command_row c).code in
        ran-two (λ o q. Same (over_room (given (answered (replied first o) room)) w₁) (over_room (given (answered (replied first q) room)) w₂)) refl
        (λ n. answer-same (says first (refused n)) (shut p) l.tables h) (λ k. obeyed-same c k first)

  put_same : (s : Store) (b : List ℕ) → Clear (rows_of w₁ (put s b)) → Same (putting s b w₁) (putting s b w₂)
  put_same s b k = record { points = refl; twins = twin _ _ _ (added p h s b (put_fits s b w₁ k)) }

  word_same : (c : WordCall) → Clear (word_rows c l.tables p) → Same (wording c w₁) (wording c w₂)
  word_same c k = on ((fares c).alike p.initialised p.words l.tables l.load m.load (pod_in p (sound_word c l.tables p k)).words h.load)
    where
      on : {o q : Out Giving Words Desk} → SameDesk o q → Same (over_desk (given (worded o p)) w₁) (over_desk (given (worded q p)) w₂)
      on (same-desk g x t d e k) =
          record { points = refl; twins = twin (with_words x p) (with_desk (desk t d) l) (with_desk (desk t e) m) (record { priority = h.priority; ordinary = h.ordinary; load = k }) }

  -- the rows look at sizes alone
  all_same : all_row l ≡ all_row (with_tables l.tables m)
  unfolding store_sized
  all_same = rw (h.priority.size, h.ordinary.size)

  steps_same : (c : Call) → Same (step w₁ c) (step w₂ c)
  unfolding step rows_of power_call packet_call put_call word_call lone_call samples_call fresh_pod start_words store_sized
  steps_same power = ran-two (λ o q. Same (over_tables o w₁) (over_tables q w₂)) refl (λ n. same) (λ k. alone fresh_pod starts (cleared p h))
  steps_same (packet b room) = ran-two (λ o q. Same (over_room o w₁) (over_room q w₂)) (rw all_same) (λ n. same) (λ k. heard-same room (packet_read b))
  steps_same (put s b) =
      ran-two (λ o q. Same (over_store s o w₁) (over_store s q w₂)) (rw (held p h s).size) (λ n. rw (store_same s l, store_same s w₂.lent) same) (put_same s b)
  steps_same (word c) = ran-two (λ o q. Same (over_desk o w₁) (over_desk q w₂)) refl (λ n. same) (word_same c)
  steps_same (lone c) = ran-two (λ o q. Same (over_sent o w₁) (over_sent q w₂)) refl (λ n. same) (λ k. alone _ l.tables h)
  steps_same (samples k xs) = ran-two (λ o q. Same (over_frames o w₁) (over_frames q w₂)) refl (λ n. same) (λ k. same)

-- every call tells the same in twins, and leaves twins
pub twin_step : {v w : World} → Twin v w → (c : Call) → Same (step v c) (step w c)
twin_step (twin p l m h) c = steps_same p l m h c

-- so does every list of calls, with the same table words at every point
pub twin_run : (cs : List Call) {v w : World} → Twin v w → run v cs ≡ run w cs
unfolding run
twin_run [] z = refl
twin_run (c ∷ cs) z = let x = twin_step z c in ap₂ (λ (a : Point) (r : List Point). a ∷ r) x.points (twin_run cs x.twins)

-- and so do two worlds that one call makes twins
pub same-run : (v w : World) (c : Call) (cs : List Call) → Same (step v c) (step w c) → run v (c ∷ cs) ≡ run w (c ∷ cs)
unfolding run
same-run v w c cs x = ap₂ (λ (a : Point) (r : List Point). a ∷ r) x.points (twin_run cs x.twins)
