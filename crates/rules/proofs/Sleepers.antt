-- Two sleeping pods that differ only in what is kept from the next hire: every call tells the same in both, and leaves two such
-- pods, or power on or an accepted Initialise makes them twins.
-- Assumes nothing.
use Prim.Native.Nat.{ℕ}
use mathlib.Core.Path.{◌≡◌, refl, sym, ap, ap₂, ◌∙◌}
use mathlib.Core.Bool.{Bool, true, false}
use mathlib.Core.List.{List, [], ◌∷◌}
use lib.ListN.{length}
use Rattle.rows.specs.Rows.{First, here, out, given, ran}
use Rattle.rows.proofs.Bool.{split, never, not-false}
use Rattle.rows.proofs.Laws.{clear_head, clear_rest, ran_first, ran-two}
use Rattle.blocks.specs.declared.Store.{Store}
use Rattle.blocks.specs.declared.Store.TheVariants.{Priority, Ordinary}
use Rattle.blocks.specs.declared.Ring.{Ring}
use Rattle.blocks.specs.Stores.{store_sized, empty_ring}
use Rattle.packets.specs.declared.Command.{Command}
use Rattle.packets.specs.declared.Command.TheVariants as asked
use Rattle.packets.specs.declared.Parsed.{Parsed}
use Rattle.packets.specs.declared.Parsed.TheVariants.{Nothing, Error, Acknowledgement, Asked}
use Rattle.packets.specs.Commands.{command_row}
use Rattle.packets.specs.Reading.{packet_read}
use Rattle.params.specs.declared.Params.{Params}
use Rattle.tables.specs.Tables.{starts, tables_sized}
use Rattle.tables.specs.Port.{Desk, start_words}
use Rattle.rules.specs.declared.Exchange.TheVariants.{Closed}
use Rattle.rules.specs.declared.Pod.{Pod}
use Rattle.rules.specs.State.{with_params, with_ring, with_words, fresh_pod, sound_pod, Lent, store_in, with_tables, desk_in}
use Rattle.rules.specs.Obey.{shut, initialised_pod, checks_of, done_by, obey_of, matches, settled, acknowledged_of}
use Rattle.rules.specs.Refusals.{store_row, state_row, block_row, asleep_row}
use Rattle.rules.specs.Families.{WordCall, word_of, word_lent, lone_of}
use Rattle.rules.specs.Calls.{power_call, replied, packet_heard, meant_body, reply_bytes, spoken_bytes, answered, packet_call, shelved, put_call, word_call, reach_of, reached, lone_call, samples_call}
use Rattle.rules.specs.World.{World, world, Call, power, packet, put, word, lone, samples, Told, Stepped, over_tables, over_room, over_store, over_desk, over_sent, over_frames, step, next, Point, tells}
use Rattle.rules.specs.Pairs.{SizesAlike, sizes_in}
use Rattle.rules.proofs.Stores.{store_same}
use Rattle.rules.proofs.Lone.{rows_alike}
use Rattle.rules.proofs.Happens.{wording}
use Rattle.rules.proofs.WordRows.{rowed}
use Rattle.rules.proofs.Fares.{fares}
use Rattle.rules.proofs.Inside.{pod_in, off_closed, off_still}
use Rattle.rules.proofs.Sound.{sound_next}
use Rattle.rules.proofs.WordsAlike.{none_came}
use Rattle.rules.proofs.Twins.{emptied, Held, Alike, Twin, twin, Same, twin_step}

-- the same pod but for the parameters and the blocks
abbrev pub disguise : Params → Ring → Ring → Pod → Pod
disguise q a o p = with_params q (with_ring Priority a (with_ring Ordinary o p))

-- a world asleep, and the same but for the parameters, the blocks and all words: the sizes are equal
pub data Sleepers : World → World → Type 0 where
  sleepers : (p : Pod) (q : Params) (a o : Ring) (l m : Lent) → sizes_in l ≡ sizes_in m → p.initialised ≡ false
      → Sleepers (world p l) (world (disguise q a o p) m)

-- two calls tell alike and leave sleepers, or twins
pub data TellAlike (s r : Stepped) : Type 0 where
  still : s.told ≡ r.told → Sleepers s.world r.world → TellAlike s r
  woken : Same s r → TellAlike s r

-- ---- of one size

module _ (l m : Lent) (sizes : sizes_in l ≡ sizes_in m) where
  store_sizes : (s : Store) → length (store_in s l) ≡ length (store_in s m)
  store_sizes Priority = ap (λ (s : SizesAlike). s.priority) sizes
  store_sizes Ordinary = ap (λ (s : SizesAlike). s.ordinary) sizes

  pub tables_same : tables_sized l.tables ≡ tables_sized m.tables
  unfolding tables_sized
  tables_same = rw (ap (λ (s : SizesAlike). s.five) sizes, ap (λ (s : SizesAlike). s.six) sizes, ap (λ (s : SizesAlike). s.seven) sizes)

  -- emptied, they may hold anything
  cleared : Held empty_ring empty_ring 0 l m
  cleared =
      record {
        priority = emptied Priority (store_sizes Priority);
        ordinary = emptied Ordinary (store_sizes Ordinary);
        load = none_came 0 refl (ap (λ (s : SizesAlike). s.load) sizes);
      }

-- ---- what does nothing asleep

-- an acknowledgement, with no exchange open, does nothing
acknowledged-asleep : (first : ℕ) (one : Bool) (p : Pod) → p.exchange ≡ Closed → acknowledged_of first one p ≡ shut p
unfolding acknowledged_of settled
acknowledged-asleep first one p e = rw e (split (matches first one Closed) (λ m. rw m) (λ m. rw m))

-- a put is refused before its store is found full
put_asleep : (s : Store) (b x : List ℕ) (p : Pod) → p.initialised ≡ false
    → put_call s b x p ≡ ran (store_row s x ∷ state_row p ∷ block_row b ∷ asleep_row p ∷ []) p x (shelved s b x p)
unfolding put_call ran
put_asleep s b x p off = rw off

module _ (p : Pod) (q : Params) (a o : Ring) (l m : Lent) (sizes : sizes_in l ≡ sizes_in m) (off : p.initialised ≡ false)
    (first : sound_pod p ≡ true) (second : sound_pod (disguise q a o p) ≡ true) where
  abbrev r : Pod
  r = disguise q a o p

  abbrev w₁ : World
  w₁ = world p l

  abbrev w₂ : World
  w₂ = world r m

  -- another of the two pods' parts changed alike
  stays : {t : Told} (x : Pod) → x.initialised ≡ false
      → TellAlike (record { told = t; world = world x l }) (record { told = t; world = world (disguise q a o x) m })
  stays x e = still refl (sleepers x q a o l m sizes e)

  same : {t : Told} → TellAlike (record { told = t; world = w₁ }) (record { told = t; world = w₂ })
  same = stays p off

  -- both begin anew, whatever lies in what is lent
  anew : {t : Told} (x : Pod) → Alike x l m
      → TellAlike (record { told = t; world = world x (with_tables starts l) }) (record { told = t; world = world x (with_tables starts m) })
  anew x h =
      woken (record { points = refl; twins = twin x (with_tables starts l) m (record { priority = h.priority; ordinary = h.ordinary; load = h.load }) })

  -- ---- a packet that is not refused
  module _ (room : List ℕ) where
    Obeyed : Command → Type 0
    Obeyed c =
        TellAlike (over_room (given (answered (replied (command_row c).code (obey_of c l (shut p))) room)) w₁)
        (over_room (given (answered (replied (command_row c).code (obey_of c m (shut r))) room)) w₂)

    -- asleep, every command but Initialise fails
    fail_alike : (c : Command) → First 0x38 (checks_of c (shut p)) → First 0x38 (checks_of c (shut r)) → Obeyed c
    unfolding Obeyed obey_of answered spoken_bytes reply_bytes
    fail_alike c f g = rw (ran_first (shut p) l (done_by c l (shut p)) f, ran_first (shut r) m (done_by c m (shut r)) g) (stays (shut p) off)

    obey_alike : (c : Command) → Obeyed c
    unfolding Obeyed obey_of checks_of done_by answered spoken_bytes reply_bytes meant_body initialised_pod fresh_pod start_words
    obey_alike (asked.Initialise f) =
        let code = (command_row (asked.Initialise f)).code in
        ran-two (λ o q. TellAlike (over_room (given (answered (replied code o) room)) w₁) (over_room (given (answered (replied code q) room)) w₂)) refl
        (λ n. stays (shut p) off) (λ k. anew _ (cleared l m sizes))
    obey_alike asked.Status = fail_alike asked.Status (here (rw off)) (here (rw off))
    obey_alike (asked.Update f) = fail_alike (asked.Update f) (here (rw off)) (here (rw off))
    obey_alike (asked.Write id v) = fail_alike (asked.Write id v) (here (rw off)) (here (rw off))
    obey_alike (asked.Read id) = fail_alike (asked.Read id) (here (rw off)) (here (rw off))
    obey_alike asked.Priority = fail_alike asked.Priority (here (rw off)) (here (rw off))
    obey_alike asked.Data = fail_alike asked.Data (here (rw off)) (here (rw off))
    obey_alike asked.Shutdown = fail_alike asked.Shutdown (here (rw off)) (here (rw off))

    heard_alike : (x : Parsed)
        → TellAlike (over_room (given (answered (packet_heard x l p) room)) w₁) (over_room (given (answered (packet_heard x m r) room)) w₂)
    unfolding packet_heard answered spoken_bytes reply_bytes Obeyed
    heard_alike Nothing = same
    heard_alike (Error code n) = stays (shut p) off
    heard_alike (Acknowledgement code one) =
        let closed = off_closed p (pod_in p first) off in
        rw (acknowledged-asleep code one p closed, acknowledged-asleep code one r closed) (stays (shut p) off)
    heard_alike (Asked c) = obey_alike c

  -- ---- the other calls

  put_alike : (s : Store) (b : List ℕ) → TellAlike (over_store s (put_call s b (store_in s l) p) w₁) (over_store s (put_call s b (store_in s m) r) w₂)
  unfolding store_sized
  put_alike s b =
      rw (put_asleep s b (store_in s l) p off, put_asleep s b (store_in s m) r off)
      (ran-two (λ o q. TellAlike (over_store s o w₁) (over_store s q w₂)) (rw (store_sizes l m sizes s, first, second))
      (λ n. rw (store_same s l, store_same s m) same)
      (λ k. never (not-false (clear_head (clear_rest (clear_rest (clear_rest k))))) off))

  word_alike : (c : WordCall) → TellAlike (wording c w₁) (wording c w₂)
  word_alike c =
      let y = (fares c).asleep p.words (off_still p (pod_in p first) off) in
      let so : (d : Desk) → word_of c p.initialised p.words d ≡ out y.said y.words d = λ d. ap (λ (b : Bool). word_of c b p.words d) off ∙ y.is d in
      rw (so (desk_in l), so (desk_in m)) (stays (with_words y.words p) off)

  word_rows_lem : (c : WordCall) → word_lent c l.tables ≡ word_lent c m.tables
  word_rows_lem c = rw ((rowed c).rows l.tables, (rowed c).rows m.tables, tables_same l m sizes)

  steps_alike : (c : Call) → TellAlike (step w₁ c) (step w₂ c)
  unfolding step power_call packet_call word_call lone_call samples_call store_sized fresh_pod start_words
  steps_alike power = ran-two (λ o q. TellAlike (over_tables o w₁) (over_tables q w₂)) (rw (tables_same l m sizes)) (λ n. same) (λ k. anew fresh_pod (cleared l m sizes))
  steps_alike (packet b room) =
      ran-two (λ o q. TellAlike (over_room o w₁) (over_room q w₂)) (rw (store_sizes l m sizes Priority, store_sizes l m sizes Ordinary, tables_same l m sizes, first, second)) (λ n. same)
      (λ k. heard_alike room (packet_read b))
  steps_alike (put s b) = put_alike s b
  steps_alike (word c) = ran-two (λ o q. TellAlike (over_desk o w₁) (over_desk q w₂)) (rw (word_rows_lem c, first, second)) (λ n. same) (λ k. word_alike c)
  steps_alike (lone c) =
      ran-two (λ o q. TellAlike (over_sent o w₁) (over_sent q w₂)) (rows_alike c p r (first ∙ sym second) refl refl) (λ n. same)
      (λ k. stays (reached (lone_of c (reach_of p)) p).pod off)
  steps_alike (samples k xs) = ran-two (λ o q. TellAlike (over_frames o w₁) (over_frames q w₂)) (rw (first, second)) (λ n. same) (λ k. same)

-- ---- for ever

sleep_step : {v w : World} → Sleepers v w → sound_pod v.pod ≡ true → sound_pod w.pod ≡ true → (c : Call) → TellAlike (step v c) (step w c)
sleep_step (sleepers p q a o l m sizes off) h k c = steps_alike p q a o l m sizes off h k c

told_same : {s r : Stepped} → Same s r → s.told ≡ r.told
told_same x = ap (λ (e : Point). e.told) x.points

twin_tells : (cs : List Call) {v w : World} → Twin v w → tells v cs ≡ tells w cs
unfolding tells
twin_tells [] z = refl
twin_tells (c ∷ cs) z = let x = twin_step z c in ap₂ (λ (t : Told) (l : List Told). t ∷ l) (told_same x) (twin_tells cs x.twins)

pub sleep_tells : (cs : List Call) (v w : World) → Sleepers v w → sound_pod v.pod ≡ true → sound_pod w.pod ≡ true → tells v cs ≡ tells w cs
unfolding tells
sleep_tells [] v w z h k = refl
sleep_tells (c ∷ cs) v w z h k = on (sleep_step z h k c) (λ y. sleep_tells cs (next v c) (next w c) y (sound_next v c h) (sound_next w c k))
  where
    on : TellAlike (step v c) (step w c) → (Sleepers (next v c) (next w c) → tells (next v c) cs ≡ tells (next w c) cs)
        → ◌≡◌ {A = List Told} ((step v c).told ∷ tells (next v c) cs) ((step w c).told ∷ tells (next w c) cs)
    on (still e y) more = ap₂ (λ (t : Told) (l : List Told). t ∷ l) e (more y)
    on (woken x) more = ap₂ (λ (t : Told) (l : List Told). t ∷ l) (told_same x) (twin_tells cs x.twins)
