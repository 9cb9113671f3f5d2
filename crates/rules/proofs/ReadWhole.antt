-- Demand 2: "A read of N gives the same three header words and N-3 data words ..", whatever calls come in between that do not close it.
-- Assumes nothing.
use Prim.Native.Nat.{ℕ, zero, suc, ◌+◌, ◌<◌}
use native.Mathlib.Nat.{add-zero, zero-add, add_assoc}
use native.Mathlib.Omega.{arith}
use mathlib.Core.Path.{◌≡◌, refl, sym, ap, ◌∙◌, subst}
use mathlib.Core.Bool.{true, false, not, cond}
use mathlib.Core.List.{List, [], ◌∷◌, ◌++◌}
use lib.Dec.{ltb, eqb}
use lib.ListN.{length}
use borrow.Author.Tests.{eq-eqb, ne_eqb, ltb-true, ltb-false}
use Rattle.std.specs.Prelude.{None}
use Rattle.rows.specs.Rows.{gave}
use Rattle.rows.proofs.Bool.{split, never, and_left, and_right, not-true}
use Rattle.tables.specs.declared.Header.{Header}
use Rattle.tables.specs.declared.Places.{Places}
use Rattle.tables.specs.declared.Words.{Words}
use Rattle.tables.specs.declared.Transfer.TheVariants.{Idle, Read}
use Rattle.tables.specs.Tables.{Three, tables_sized, words_of, with_read_place}
use Rattle.tables.specs.Port.{Answered, Desk, with_transfer, with_places, with_given, data_count, close_of, read_opened, read_opened_at, order_obeyed, tables_after, command_of, read_word, read_next, word_given}
use Rattle.tables.proofs.Obeying.{given_by}
use Rattle.tables.proofs.Reading.{read_first, read-second, read-third, read_data}
use Rattle.rules.specs.State.{sound_pod, desk_in, with_words}
use Rattle.rules.specs.Refusals.{done, reads}
use Rattle.rules.specs.Families.{WordCall, command, data_out, word_of}
use Rattle.rules.specs.World.{World, Call, word, told, Stepped, stepped, step, next, final}
use Rattle.rules.specs.History.{Event, event_of, events}
use Rattle.rules.specs.Transfers.{Fit, cuts, cuts_read, left_open, call_reads, reads_in, word_shown, Reads}
use Rattle.rules.specs.Demands.{ReadWhole, ReadEnds, ReadMoves}
use Rattle.rules.proofs.Happens.{happens, wording}
use Rattle.rules.proofs.Fares.{WithRead, ending, going, fares}
use Rattle.rules.proofs.Sound.{sound_next}
use Rattle.rules.proofs.Between.{final_then, word_fit, Other, powers, sends, puts, touches, shows, Which, says, other, which, Ported, apart, ends, ported}

-- no other call than a table word reads one
reads_none : {c : Call} → Other c → call_reads c ≡ 0
reads_none powers = refl
reads_none (sends b room) = refl
reads_none (puts s b) = refl
reads_none (touches c) = refl
reads_none (shows k xs) = refl

module _ (h : Header) (at : ℕ) (places : Places) where
  -- the read is open, k words of it read, its place moved and the given address used up
  record Along (w : World) (k : ℕ) : Type 0 where
    fit : Fit w
    transfer : w.pod.words.transfer ≡ Read h k at
    moved : w.pod.words.places ≡ places
    given : w.pod.words.given ≡ None

  -- a data word read
  reading : (w : World) (k : ℕ) → Along w k
      → wording data_out w
      ≡ stepped (gave (reads (read_word h at (words_of h.table w.lent.tables) k))) [] (with_words (with_transfer (read_next h k at) w.pod.words) w.pod) w.lent
  unfolding word_of word_given
  reading w k o = ap (λ (a : Answered). stepped (gave (reads a.word)) [] (with_words a.words w.pod) w.lent) (given_by (Read h k at) w.pod.words w.lent.tables o.transfer)

  -- so it stands, with other words of the port and the same lent
  stays : (v w : World) (k : ℕ) → Fit w → sound_pod v.pod ≡ true → desk_in v.lent ≡ desk_in w.lent → v.pod.words.transfer ≡ Read h k at
      → v.pod.words.places ≡ places → v.pod.words.given ≡ None → Along v k
  stays v w k f s d t p g =
      record {
        fit = record { tables = ap (λ (x : Desk). tables_sized x.tables) d ∙ f.tables; sound = s; load = ap (λ (x : Desk). length x.load) d ∙ f.load };
        transfer = t;
        moved = p;
        given = g;
      }

  -- a table word that does not cut it
  word_along : (x : WordCall) (w : World) (k : ℕ) → cuts_read x ≡ false → k + call_reads (word x) < h.n → sound_pod (wording x w).world.pod ≡ true
      → Along w k → Along (wording x w).world (k + call_reads (word x))
  word_along x w k e l s o = on (fares x).read
    where
      on : WithRead x → Along (wording x w).world (k + call_reads (word x))
      on (ending i) = never i e
      on (going f) =
          let y = f w.pod.initialised w.pod.words (desk_in w.lent) h k at o.transfer l in
          stays _ w (k + call_reads (word x)) o.fit s y.lent y.transfer (y.places ∙ o.moved) (y.given ∙ o.given)

  -- any other call that does not
  other-along : {w v : World} {e : Event} → Ported w e v → (k : ℕ) → cuts cuts_read e ≡ false → sound_pod v.pod ≡ true → Along w k → Along v k
  other-along {w} (apart e v f q) k i s o =
      stays v w k o.fit s q.desk (ap (λ (x : Words). x.transfer) q.words ∙ o.transfer) (ap (λ (x : Words). x.places) q.words ∙ o.moved)
      (ap (λ (x : Words). x.given) q.words ∙ o.given)
  other-along (ends e v f t l) k i s o = never (f cuts_read) i

  call_along : (w : World) (k : ℕ) {c : Call} → Which c → cuts cuts_read (event_of c (step w c).told) ≡ false → k + call_reads c < h.n
      → sound_pod (next w c).pod ≡ true → Along w k → Along (next w c) (k + call_reads c)
  unfolding event_of cuts
  call_along w k (says x) e l s o =
      subst (λ (y : Stepped). cuts cuts_read (event_of (word x) y.told) ≡ false → sound_pod y.world.pod ≡ true → Along y.world (k + call_reads (word x)))
      (sym (word_fit w o.fit x)) (λ i j. word_along x w k i l j o) e s
  call_along w k {c} (other q) e l s o =
      rw (reads_none q, add-zero k) (other-along (ported q (happens w c)) k e s o)

  -- and any list of them
  along : (cs : List Call) (w : World) (k : ℕ) → left_open cuts_read (events w cs) ≡ true → k + reads_in cs < h.n → Along w k
      → Along (final w cs) (k + reads_in cs)
  unfolding final events left_open reads_in
  along [] w k e l o = rw (add-zero k) o
  along (c ∷ cs) w k e l o =
      let a = not (cuts cuts_read (event_of c (step w c).told)) in
      let b = left_open cuts_read (events (next w c) cs) in
      rw (← add_assoc k (call_reads c) (reads_in cs))
      (along cs (next w c) (k + call_reads c) (and_right a b e) (omega arith)
      (call_along w k (which c) (not-true (and_left a b e)) (omega arith) (sound_next w c o.fit.sound) o))

-- the word of a read that the pod gives is that of the paper
pub word_shown_lem : (h : Header) (at : ℕ) (s : Three) (k : ℕ) → read_word h at (words_of h.table s) k ≡ word_shown h at s k
unfolding word_shown
word_shown_lem h at s zero = read_first h at (words_of h.table s)
word_shown_lem h at s (suc zero) = read-second h at (words_of h.table s)
word_shown_lem h at s (suc (suc zero)) = read-third h at (words_of h.table s)
word_shown_lem h at s (suc (suc (suc k))) =
    let j = suc (suc (suc k)) in
    rw (ne_eqb j 0 (λ e. omega arith), ne_eqb j 1 (λ e. omega arith), ne_eqb j 2 (λ e. omega arith))
    (read_data h at (words_of h.table s) j (omega arith))

-- after its last word it is closed
next-ends : (h : Header) (k at : ℕ) → k < h.n → read_next h k at ≡ cond (eqb (k + 1) h.n) Idle (Read h (k + 1) at)
unfolding read_next
next-ends h k at l =
    split (ltb (k + 1) h.n) (λ e. rw (e, ne_eqb (k + 1) h.n (λ q. omega (arith, ltb-true (k + 1) h.n e))))
    (λ e. rw (e, eq-eqb (k + 1) h.n (omega (arith, ltb-false (k + 1) h.n e))))

-- ---- from the command word on

module _ (w : World) (x : ℕ) (h : Header) (at : ℕ) (cs : List Call) (r : Reads w x h at cs) where
  abbrev behind : Places
  behind = with_read_place h.table (at + data_count h) w.pod.words.places

  -- the port with the read open
  abbrev opened : Words
  opened = with_given None (with_places behind (with_transfer (Read h 0 at) (close_of w.pod.words)))

  is_opened : wording (command x) w ≡ stepped (gave done) [] (with_words opened w.pod) w.lent
  unfolding word_of command_of order_obeyed read_opened read_opened_at tables_after close_of
  is_opened = rw (r.awake, r.asked, ← r.begun, r.within)

  begins : Along h at behind (next w (word (command x))) 0
  unfolding close_of
  begins =
      let so = word_fit w r.fit (command x) ∙ is_opened in
      let port = ap (λ (y : Stepped). y.world.pod.words) so in
      stays h at behind (next w (word (command x))) w 0 r.fit (sound_next w (word (command x)) r.fit.sound) (ap (λ (y : Stepped). desk_in y.world.lent) so)
      (ap (λ (v : Words). v.transfer) port) (ap (λ (v : Words). v.places) port) (ap (λ (v : Words). v.given) port)

  -- the world after the calls between
  abbrev now : World
  now = final w (word (command x) ∷ cs)

  open_still : Along h at behind now (reads_in cs)
  unfolding final
  open_still =
      rw (zero-add (reads_in cs)) at (along h at behind cs (next w (word (command x))) 0 r.still (omega (arith, r.short)) begins)

  -- one word more
  one_read : step now (word data_out)
      ≡ stepped (gave (reads (read_word h at (words_of h.table now.lent.tables) (reads_in cs)))) [] (with_words (with_transfer (read_next h (reads_in cs) at) now.pod.words) now.pod) now.lent
  one_read = word_fit now open_still.fit data_out ∙ reading h at behind now (reads_in cs) open_still

  one_more : (final w (word (command x) ∷ (cs ++ (word data_out ∷ [])))).pod.words.transfer ≡ read_next h (reads_in cs) at
  unfolding final
  one_more =
      ap (λ (v : World). v.pod.words.transfer) (final_then (next w (word (command x))) cs (word data_out ∷ []))
      ∙ ap (λ (y : Stepped). y.world.pod.words.transfer) one_read

pub read_whole : ReadWhole
read_whole w x h at cs r =
    ap (λ (y : Stepped). y.told) (one_read w x h at cs r)
    ∙ ap (λ (k : ℕ). told (gave (reads k)) []) (word_shown_lem h at (now w x h at cs r).lent.tables (reads_in cs))

pub read-ends : ReadEnds
read-ends w x h at cs r = one_more w x h at cs r ∙ next-ends h (reads_in cs) at r.short

pub read_moves : ReadMoves
read_moves w x h at cs r = ((open_still w x h at cs r).moved, (open_still w x h at cs r).given)
