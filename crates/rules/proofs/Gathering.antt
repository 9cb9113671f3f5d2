-- An open load with the calls that come in between its words: the words gather, and all else is what the other calls alone make of it.
-- Assumes nothing.
use Prim.Native.Nat.{ℕ, suc, ◌+◌, ◌<◌}
use native.Mathlib.Nat.{add-zero, add-suc, suc-add}
use native.Mathlib.Numerals.{add-one}
use native.Mathlib.Omega.{arith}
use mathlib.Core.Path.{◌≡◌, refl, sym, ap, ◌∙◌, subst}
use mathlib.Core.Bool.{true, false, not}
use mathlib.Core.List.{List, [], ◌∷◌}
use lib.ListN.{length, set, length-set}
use lib.Seq.{sets}
use Rattle.rows.proofs.Bool.{never, and_left, and_right, not-true}
use Rattle.tables.specs.declared.Header.{Header}
use Rattle.tables.specs.declared.Words.{Words}
use Rattle.tables.specs.declared.Transfer.{Transfer}
use Rattle.tables.specs.declared.Transfer.TheVariants.{Load}
use Rattle.tables.specs.Tables.{tables_sized}
use Rattle.tables.specs.Port.{Desk, Tabled}
use Rattle.rules.specs.State.{desk_in, sound_pod, with_words, with_desk}
use Rattle.rules.specs.Families.{WordCall, word_of}
use Rattle.rules.specs.Traits.{traits}
use Rattle.rules.specs.World.{World, world, Call, word, Stepped, step, next, final}
use Rattle.rules.specs.History.{Event, event_of, events}
use Rattle.rules.specs.Transfers.{Fit, cuts, cuts_load, left_open, call_written, written_in, others_in}
use Rattle.rules.proofs.Happens.{happens}
use Rattle.rules.proofs.Fares.{Brings, Leaves, WithLoad, cutting, bringing, leaving, fares}
use Rattle.rules.proofs.Sound.{sound_next}
use Rattle.rules.proofs.Between.{word_fit, word_event, Other, powers, sends, puts, touches, shows, Which, says, other, which, Ported, apart, ends, ported}
use Rattle.rules.proofs.Holding.{hold, beside, sound_held, other-held}

-- no other call than a table word writes one
written_none : {c : Call} → Other c → call_written c ≡ []
written_none powers = refl
written_none (sends b room) = refl
written_none (puts s b) = refl
written_none (touches c) = refl
written_none (shows k xs) = refl

-- a world with the port so
abbrev pub laid : Tabled → World → World
laid y w = world (with_words y.words w.pod) (with_desk y.desk w.lent)

module _ (h : Header) where
  -- a load is open, no word of which has come
  pub record Open (z : World) : Type 0 where
    pub fit : Fit z
    pub transfer : z.pod.words.transfer ≡ Load h 0

  -- the world with k words of it come
  abbrev pub along : ℕ → List ℕ → World → World
  along k l z = hold (Load h k) l z

  pub fit_along : (k : ℕ) (l : List ℕ) (z : World) → Open z → length l ≡ 64 → k < h.n → Fit (along k l z)
  fit_along k l z o long i =
      record {
        tables = o.fit.tables;
        sound = sound_held h k i l z 0 (omega arith) o.transfer ∙ o.fit.sound;
        load = long;
      }

  -- a call that leaves the port leaves it open
  open_next : (z v : World) → Open z → sound_pod v.pod ≡ true → v.pod.words.transfer ≡ z.pod.words.transfer → desk_in v.lent ≡ desk_in z.lent → Open v
  open_next z v o s t d =
      record {
        fit = record { tables = ap (λ (x : Desk). tables_sized x.tables) d ∙ o.fit.tables; sound = s; load = ap (λ (x : Desk). length x.load) d ∙ o.fit.load };
        transfer = t ∙ o.transfer;
      }

  -- a table word that brings one word more
  gathers : (c : WordCall) (x k : ℕ) (l : List ℕ) (z : World) → Brings c x → Fit (along k l z) → k + 1 < h.n
      → next (along k l z) (word c) ≡ along (suc k) (set l k x) z
  gathers c x k l z b f i =
      let v = along k l z in
      let on = z.pod.initialised in
      let w = z.pod.words in
      let d = desk_in v.lent in
      ap (λ (y : Stepped). y.world) (word_fit v f c)
      ∙ (λ j. world (with_words (b.pod on w d h k i j) z.pod) (with_desk (b.lent on w d h k i j) z.lent))
      ∙ ap (λ (j : ℕ). along j (set l k x) z) (add-one k)

  -- and one that leaves the load
  passed_by : (c : WordCall) (k : ℕ) (l : List ℕ) (z : World) → Leaves c → Fit (along k l z) → Fit z → next (along k l z) (word c) ≡ along k l (next z (word c))
  passed_by c k l z p f g =
      let v = along k l z in
      let on = z.pod.initialised in
      let w = z.pod.words in
      let d = desk_in z.lent in
      let e = desk_in v.lent in
      ap (λ (y : Stepped). y.world) (word_fit v f c)
      ∙ (λ j. world (with_words (p.pod on (Load h k) w e d j) z.pod) (with_desk (p.lent on v.pod.words e j) z.lent))
      ∙ ap (λ (x : Desk). along k l (world (with_words (word_of c on w d).pod z.pod) (with_desk x z.lent))) (sym (p.lent on w d))
      ∙ ap (λ (y : Stepped). along k l y.world) (sym (word_fit z g c))

  -- through some calls: the words that came, over what the other calls alone make of the world
  pub record Passed (cs : List Call) (k : ℕ) (l : List ℕ) (z : World) : Type 0 where
    pub is : final (along k l z) cs ≡ along (k + length (written_in cs)) (sets l k (written_in cs)) (final z (others_in cs))
    pub stays : Open (final z (others_in cs))
    pub desk : desk_in (final z (others_in cs)).lent ≡ desk_in z.lent

  abbrev Passes : List Call → Type 0
  Passes cs = (k : ℕ) (l : List ℕ) (z : World) → Open z → length l ≡ 64 → left_open cuts_load (events (along k l z) cs) ≡ true
      → k + length (written_in cs) < h.n → Passed cs k l z

  module _ (cs : List Call) (rest : Passes cs) (k : ℕ) (l : List ℕ) (z : World) (o : Open z) (long : length l ≡ 64) where
    -- a call that is the same in both
    alike : (c : Call) → call_written c ≡ [] → next (along k l z) c ≡ along k l (next z c) → Open (next z c) → desk_in (next z c).lent ≡ desk_in z.lent
        → left_open cuts_load (events (next (along k l z) c) cs) ≡ true → k + length (written_in (c ∷ cs)) < h.n → Passed (c ∷ cs) k l z
    unfolding final written_in others_in
    alike c d so p kept e i =
        let y = rest k l (next z c) p long (subst (λ (v : World). left_open cuts_load (events v cs) ≡ true) so e) (rw d at i) in
        record { is = rw d (ap (λ (v : World). final v cs) so ∙ y.is); stays = rw d y.stays; desk = rw d (y.desk ∙ kept) }

    -- any call but a table word
    other_passes : {c : Call} → Other c → {e : Event} → Ported z e (next z c) → cuts cuts_load e ≡ false
        → left_open cuts_load (events (next (along k l z) c) cs) ≡ true → k + length (written_in (c ∷ cs)) < h.n → Passed (c ∷ cs) k l z
    other_passes {c} q (apart e v f kept) i more n =
        let same = ap (λ (x : Words). x.transfer) kept.words in
        let so = ap (λ (y : Stepped). y.world) (other-held h k (omega arith) l z 0 (omega arith) o.transfer q) in
        alike c (written_none q) (so ∙ ap (λ (u : Transfer). hold (beside (Load h k) u) l (next z c)) (same ∙ o.transfer))
        (open_next z (next z c) o (sound_next z c o.fit.sound) same kept.desk) kept.desk more n
    other_passes q (ends e v f t m) i more n = never (f cuts_load) i

    -- a table word
    brought : (c : WordCall) (x : ℕ) → Brings c x → (traits c).written ≡ x ∷ [] → left_open cuts_load (events (next (along k l z) (word c)) cs) ≡ true
        → k + length (written_in (word c ∷ cs)) < h.n → Passed (word c ∷ cs) k l z
    unfolding final written_in others_in
    brought c x b d more n =
        let count : k + suc (length (written_in cs)) < h.n = rw d at n in
        let one = gathers c x k l z b (fit_along k l z o long (omega arith)) (omega arith) in
        let y = rest (suc k) (set l k x) z o (length-set l k x ∙ long) (subst (λ (v : World). left_open cuts_load (events v cs) ≡ true) one more) (omega arith) in
        record {
          is = rw d (ap (λ (v : World). final v cs) one ∙ y.is
              ∙ ap (λ (i : ℕ). along i (sets l k (x ∷ written_in cs)) (final z (others_in cs))) (suc-add k (length (written_in cs)) ∙ sym (add-suc k (length (written_in cs)))));
          stays = rw d y.stays;
          desk = rw d y.desk;
        }

    left : (c : WordCall) → Leaves c → (traits c).written ≡ [] → left_open cuts_load (events (next (along k l z) (word c)) cs) ≡ true
        → k + length (written_in (word c ∷ cs)) < h.n → Passed (word c ∷ cs) k l z
    left c p d more n =
        let on = z.pod.initialised in
        let at = desk_in z.lent in
        let so = word_fit z o.fit c in
        let kept = ap (λ (y : Stepped). desk_in y.world.lent) so ∙ p.lent on z.pod.words at in
        alike (word c) d (passed_by c k l z p (fit_along k l z o long (omega arith)) o.fit)
        (open_next z (next z (word c)) o (sound_next z (word c) o.fit.sound)
        (ap (λ (y : Stepped). y.world.pod.words.transfer) so ∙ ap (λ (v : Words). v.transfer) (p.pod on z.pod.words.transfer z.pod.words at at)) kept)
        kept more n

    word_passes : (c : WordCall) → cuts_load c ≡ false → left_open cuts_load (events (next (along k l z) (word c)) cs) ≡ true
        → k + length (written_in (word c ∷ cs)) < h.n → Passed (word c ∷ cs) k l z
    word_passes c e more n = on (fares c).load
      where
        on : WithLoad c → Passed (word c ∷ cs) k l z
        on (cutting i q) = never i e
        on (bringing x i d q) = brought c x q d more n
        on (leaving i d q) = left c q d more n

    step_passes : {c : Call} → Which c → cuts cuts_load (event_of c (step (along k l z) c).told) ≡ false
        → left_open cuts_load (events (next (along k l z) c) cs) ≡ true → k + length (written_in (c ∷ cs)) < h.n → Passed (c ∷ cs) k l z
    unfolding cuts
    step_passes (says x) e more n =
        word_passes x (ap (cuts cuts_load) (sym (word_event (along k l z) (fit_along k l z o long (omega arith)) x)) ∙ e) more n
    step_passes {c} (other q) e more n =
        let same = ap (λ (y : Stepped). cuts cuts_load (event_of c y.told)) (other-held h k (omega arith) l z 0 (omega arith) o.transfer q) in
        other_passes q (ported q (happens z c)) (sym same ∙ e) more n

  pub passes : (cs : List Call) → Passes cs
  unfolding final events left_open written_in others_in
  passes [] k l z o long e n = record { is = ap (λ (i : ℕ). along i l z) (sym (add-zero k)); stays = o; desk = refl }
  passes (c ∷ cs) k l z o long e n =
      let a = not (cuts cuts_load (event_of c (step (along k l z) c).told)) in
      let b = left_open cuts_load (events (next (along k l z) c) cs) in
      step_passes cs (passes cs) k l z o long (which c) (not-true (and_left a b e)) (and_right a b e) n
