-- Demand 2: a load cut short leaves nothing behind: while it is open none of its words stands in a table, and from the call on that
-- closes it all is told as if no word of it had come.
-- Assumes nothing.
use Prim.Native.Nat.{ℕ, ◌+◌, ◌<◌}
use native.Mathlib.Omega.{arith}
use mathlib.Core.Path.{◌≡◌, refl, sym, ap, ◌∙◌, subst}
use mathlib.Core.Bool.{true}
use mathlib.Core.List.{List, ◌∷◌}
use lib.ListN.{length}
use lib.Seq.{sets, length-sets}
use Rattle.rows.specs.Rows.{Out, given}
use Rattle.rows.proofs.Bool.{never}
use Rattle.tables.specs.declared.Header.{Header}
use Rattle.tables.specs.declared.Words.{Words}
use Rattle.tables.specs.declared.Transfer.{Transfer}
use Rattle.tables.specs.declared.Transfer.TheVariants.{Load}
use Rattle.tables.specs.Port.{Desk}
use Rattle.rules.specs.State.{desk_in}
use Rattle.rules.specs.Refusals.{Giving}
use Rattle.rules.specs.Families.{WordCall}
use Rattle.rules.specs.Calls.{worded}
use Rattle.rules.specs.World.{World, Call, word, Stepped, over_desk, step, next, final, run}
use Rattle.rules.specs.History.{Event, event_of, events}
use Rattle.rules.specs.Transfers.{cuts, cuts_load, left_open, written_in, others_in}
use Rattle.rules.specs.Demands.{LoadCut}
use Rattle.rules.proofs.Happens.{happens, wording}
use Rattle.tables.proofs.Stale.{gathered as came_of}
use Rattle.rules.proofs.WordsAlike.{none_came}
use Rattle.rules.proofs.Fares.{Cuts, WithLoad, cutting, bringing, leaving, fares}
use Rattle.rules.proofs.Twins.{twin, Same, same-run}
use Rattle.rules.proofs.Between.{word_fit, word_event, Which, says, other, which, Ported, apart, ends, ported}
use Rattle.rules.proofs.Holding.{hold, beside, held, other-held}
use Rattle.rules.proofs.Gathering.{Open, along, fit_along, passes}

-- a call's outcome with other words of a load
abbrev stale : List ℕ → Stepped → Stepped
stale l s = record { told = s.told; world = hold s.world.pod.words.transfer l s.world }

-- where none has come that is never told
stale-same : (l : List ℕ) (s : Stepped) → came_of s.world.pod.words.transfer ≡ 0 → length l ≡ length s.world.lent.load → Same (stale l s) s
stale-same l s none long =
    record {
      points = refl;
      twins = twin s.world.pod (stale l s).world.lent s.world.lent
          (record { priority = record { size = refl; blocks = refl }; ordinary = record { size = refl; blocks = refl }; load = none_came _ none long });
    }

module _ (h : Header) (k : ℕ) (l : List ℕ) (z : World) (o : Open h z) (long : length l ≡ 64) (more : k < h.n) where
  -- so the call that closes the load is told the same, and all behind it
  closed_same : (c : Call) → step (along h k l z) c ≡ stale l (step z c) → came_of (next z c).pod.words.transfer ≡ 0 → (next z c).lent.load ≡ z.lent.load
      → Same (step (along h k l z) c) (step z c)
  closed_same c so none kept =
      subst (λ (s : Stepped). Same s (step z c)) (sym so) (stale-same l (step z c) none (long ∙ sym o.fit.load ∙ sym (ap length kept)))

  as_open : z ≡ along h 0 z.lent.load z
  as_open = ap (λ (u : Transfer). hold u z.lent.load z) o.transfer

  -- a table word that closes it
  word_closes : (c : WordCall) → Cuts c → Same (step (along h k l z) (word c)) (step z (word c))
  word_closes c q =
      let v = along h k l z in
      let on = z.pod.initialised in
      let w = z.pod.words in
      let so = word_fit z o.fit c in
      closed_same (word c)
      (word_fit v (fit_along h k l z o long more) c
      ∙ ap (λ (y : Out Giving Words Desk). over_desk (given (worded y z.pod)) z) (q.blind on w h k z.lent.tables l z.lent.load)
      ∙ ap (λ (y : World). stale l (wording c y)) (sym as_open) ∙ ap (stale l) (sym so))
      (ap (λ (s : Stepped). came_of s.world.pod.words.transfer) so ∙ q.none on w (desk_in z.lent))
      (ap (λ (s : Stepped). s.world.lent.load) so ∙ q.load on w (desk_in z.lent))

  word_cut : (c : WordCall) → cuts_load c ≡ true → Same (step (along h k l z) (word c)) (step z (word c))
  word_cut c e = on (fares c).load
    where
      on : WithLoad c → Same (step (along h k l z) (word c)) (step z (word c))
      on (cutting i q) = word_closes c q
      on (bringing x i d q) = never e i
      on (leaving i d q) = never e i

  -- and any other call that does
  other_cut : (c : Call) → step (along h k l z) c ≡ held (Load h k) l (step z c) → {e : Event} → Ported z e (next z c) → cuts cuts_load e ≡ true
      → Same (step (along h k l z) c) (step z c)
  other_cut c so (apart e v f kept) i = never i (f cuts_load)
  other_cut c so (ends e v f t kept) i =
      let with : Transfer → Stepped = λ u. record { told = (step z c).told; world = hold u l (next z c) } in
      closed_same c (so ∙ ap (λ (u : Transfer). with (beside (Load h k) u)) t ∙ sym (ap with t)) (ap came_of t) kept

  cut_same : {c : Call} → Which c → cuts cuts_load (event_of c (step (along h k l z) c).told) ≡ true → Same (step (along h k l z) c) (step z c)
  unfolding cuts
  cut_same (says x) e = word_cut x (ap (cuts cuts_load) (sym (word_event (along h k l z) (fit_along h k l z o long more) x)) ∙ e)
  cut_same {c} (other q) e =
      let so = other-held h k more l z 0 (omega arith) o.transfer q in
      other_cut c so (ported q (happens z c)) (ap (λ (s : Stepped). cuts cuts_load (event_of c s.told)) (sym so) ∙ e)

-- a load cut anywhere, by whatever call: from there on it is as if no word of it had come
pub load_cut : LoadCut
load_cut w h bs c cs r =
    let xs = written_in bs in
    let k = 0 + length xs in
    let l = sets w.lent.load 0 xs in
    let z = final w (others_in bs) in
    let same = ap (λ (u : Transfer). hold u w.lent.load w) r.begun in
    let still = subst (λ (v : World). left_open cuts_load (events v bs) ≡ true) same r.still in
    let part = passes h bs 0 w.lent.load w (record { fit = r.fit; transfer = r.begun }) r.fit.load still (omega (arith, r.short)) in
    let long = length-sets w.lent.load 0 xs ∙ r.fit.load in
    let so = ap (λ (v : World). final v bs) same ∙ part.is in (
      ap (λ (v : World). v.lent.tables) so ∙ ap (λ (d : Desk). d.tables) part.desk,
      subst (λ (v : World). cuts cuts_load (event_of c (step v c).told) ≡ true → run v (c ∷ cs) ≡ run z (c ∷ cs)) (sym so)
          (λ e. same-run (along h k l z) z c cs (cut_same h k l z part.stays long (omega (arith, r.short)) (which c) e)),
    )
