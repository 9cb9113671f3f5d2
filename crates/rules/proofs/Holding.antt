-- One world with an open load at two places along, with any words of it: no call but a table word tells them apart, and each leaves
-- them so, or closes the load in both.
-- Assumes nothing.
use Prim.Native.Nat.{ℕ, ◌<◌}
use mathlib.Core.Path.{◌≡◌, refl, sym, ap, ◌∙◌}
use mathlib.Core.Bool.{Bool, true, false, ◌||◌, cond}
use mathlib.Core.List.{List}
use lib.Dec.{eqb}
use borrow.Author.Tests.{lt-ltb}
use Rattle.rows.specs.Rows.{refused, gave, out, given}
use Rattle.rows.proofs.Bool.{split}
use Rattle.rows.proofs.Laws.{ran-two}
use Rattle.blocks.specs.declared.Store.{Store}
use Rattle.blocks.specs.declared.Store.TheVariants.{Priority, Ordinary}
use Rattle.packets.specs.declared.Command.{Command}
use Rattle.packets.specs.declared.Command.TheVariants as asked
use Rattle.packets.specs.declared.Parsed.{Parsed}
use Rattle.packets.specs.declared.Parsed.TheVariants.{Nothing, Error, Acknowledgement, Asked}
use Rattle.packets.specs.Commands.{command_row}
use Rattle.packets.specs.Reading.{packet_read}
use Rattle.packets.specs.Answers.{answer_of}
use Rattle.tables.specs.declared.Header.{Header}
use Rattle.tables.specs.declared.Words.{Words}
use Rattle.tables.specs.declared.Transfer.{Transfer}
use Rattle.tables.specs.declared.Transfer.TheVariants.{Idle, Load}
use Rattle.tables.specs.Bounds.{sound_transfer, sound_words}
use Rattle.tables.specs.Tables.{starts}
use Rattle.tables.specs.Port.{desk, is_open, with_error, with_transfer, start_words, close_of}
use Rattle.params.specs.Rules.{stored}
use Rattle.rules.specs.declared.Exchange.{Exchange}
use Rattle.rules.specs.declared.Exchange.TheVariants.{Closed, Status, Read, Receive}
use Rattle.rules.specs.declared.Pod.{Pod}
use Rattle.rules.specs.State.{Lent, with_initialised, with_fields, with_params, with_exchange, with_words, with_tables, with_desk, ring_of, remaining_of, fresh_pod, restful, sound_pod}
use Rattle.rules.specs.Obey.{Meant, success, report, value, block, shut, initialised_pod, checks_of, done_by, obey_of, matches, drop_from, settled, acknowledged_of, report_of}
use Rattle.rules.specs.Calls.{power_call, Spoken, silent, says, replied, packet_heard, meant_body, reply_bytes, spoken_bytes, answered, packet_call, put_call, lone_call, samples_call}
use Rattle.rules.specs.World.{World, world, Call, Stepped, over_tables, over_room, over_store, over_sent, over_frames, step}
use Rattle.rules.proofs.Lone.{rows_alike}
use Rattle.rules.proofs.Between.{Other, powers, sends, puts, touches, shows}

-- with other words of a load
abbrev with_load : List ℕ → Lent → Lent
with_load l t = with_desk (desk t.tables l) t

-- with another transfer
abbrev holding : Transfer → Pod → Pod
holding u p = with_words (with_transfer u p.words) p

-- and a world with both
abbrev pub hold : Transfer → List ℕ → World → World
hold u l w = world (holding u w.pod) (with_load l w.lent)

-- ---- the acknowledgement looks at no table word

drop_words : (s : Store) (v : Words) (p : Pod) → drop_from s (with_words v p) ≡ with_words v (drop_from s p)
unfolding drop_from
drop_words s v p = split (eqb (ring_of s p).waiting 0 || eqb (remaining_of s p.fields) 0) (λ e. rw e) (λ e. rw e)

settled-words : (x : Exchange) (v : Words) (p : Pod) → settled x (with_words v p) ≡ with_words v (settled x p)
unfolding settled
settled-words Closed v p = refl
settled-words Status v p = refl
settled-words Read v p = refl
settled-words (Receive s) v p = drop_words s v p

acknowledged-words : (first : ℕ) (one : Bool) (v : Words) (p : Pod) → acknowledged_of first one (with_words v p) ≡ with_words v (acknowledged_of first one p)
unfolding acknowledged_of
acknowledged-words first one v p =
    split (matches first one p.exchange) (λ e. rw e (ap shut (settled-words p.exchange v p))) (λ e. rw e)

-- ---- nor does an answer

module _ (v u : Words) (l m : List ℕ) (p : Pod) (t : Lent) where
  meant_same : (x : Meant) → meant_body x (with_words v p) (with_load l t) ≡ meant_body x (with_words u p) (with_load m t)
  unfolding meant_body report_of
  meant_same success = refl
  meant_same report = refl
  meant_same (value id z) = refl
  meant_same (block s) = refl

  spoken-same : (x : Spoken) → spoken_bytes x (with_words v p) (with_load l t) ≡ spoken_bytes x (with_words u p) (with_load m t)
  unfolding spoken_bytes reply_bytes
  spoken-same silent = refl
  spoken-same (says first (refused n)) = refl
  spoken-same (says first (gave x)) = ap (answer_of first 0x01) (meant_same x)

checks-same : (c : Command) (v u : Words) (p : Pod) → checks_of c (with_words v p) ≡ checks_of c (with_words u p)
unfolding checks_of
checks-same (asked.Initialise f) v u p = refl
checks-same asked.Status v u p = refl
checks-same (asked.Update f) v u p = refl
checks-same (asked.Write id z) v u p = refl
checks-same (asked.Read id) v u p = refl
checks-same asked.Priority v u p = refl
checks-same asked.Data v u p = refl
checks-same asked.Shutdown v u p = refl

-- ---- two worlds

-- an open transfer as it is in the other world; a closed one is closed there too
abbrev pub beside : Transfer → Transfer → Transfer
beside u t = cond (is_open t) u t

-- what a call leaves, with the other transfer where one is open still
abbrev pub held : Transfer → List ℕ → Stepped → Stepped
held u l z = record { told = z.told; world = hold (beside u z.world.pod.words.transfer) l z.world }

module _ (h : Header) (k j : ℕ) (along : k < h.n) (before : j < h.n) (l m : List ℕ) (w : World) where
  abbrev a : World
  a = hold (Load h k) l w

  abbrev b : World
  b = hold (Load h j) m w

  -- the bounds look at no more
  sound_same : sound_pod a.pod ≡ sound_pod b.pod
  unfolding sound_pod sound_words sound_transfer restful
  sound_same = rw (lt-ltb k h.n along, lt-ltb j h.n before)

  -- an answer over any pod and lent: with the load open, or closed, in both
  module _ (room : List ℕ) where
    telling-same : (s : Spoken) (x y : Transfer) → beside (Load h k) y ≡ x → (q : Pod) (t : Lent)
        → over_room (given (answered (out s (holding x q) (with_load l t)) room)) a
        ≡ held (Load h k) l (over_room (given (answered (out s (holding y q) (with_load m t)) room)) b)
    unfolding answered
    telling-same s x y e q t = rw (e, spoken-same (with_transfer x q.words) (with_transfer y q.words) l m q t s)

    obeyed-same : (c : Command) (first : ℕ)
        → over_room (given (answered (replied first (given (done_by c a.lent (shut a.pod)))) room)) a
        ≡ held (Load h k) l (over_room (given (answered (replied first (given (done_by c b.lent (shut b.pod)))) room)) b)
    unfolding done_by initialised_pod fresh_pod start_words close_of
    obeyed-same (asked.Initialise f) first =
        telling-same (says first _) Idle Idle refl (done_by (asked.Initialise f) w.lent (shut w.pod)).pod (with_tables starts w.lent)
    obeyed-same asked.Status first = telling-same (says first _) (Load h k) (Load h j) refl (with_exchange Status w.pod) w.lent
    obeyed-same (asked.Update f) first = telling-same (says first _) (Load h k) (Load h j) refl (with_fields f (shut w.pod)) w.lent
    obeyed-same (asked.Write id v) first =
        telling-same (says first _) (Load h k) (Load h j) refl (with_params (stored w.pod.params id v) (shut w.pod)) w.lent
    obeyed-same (asked.Read id) first = telling-same (says first _) (Load h k) (Load h j) refl (with_exchange Read w.pod) w.lent
    obeyed-same asked.Priority first = telling-same (says first _) (Load h k) (Load h j) refl (with_exchange (Receive Priority) w.pod) w.lent
    obeyed-same asked.Data first = telling-same (says first _) (Load h k) (Load h j) refl (with_exchange (Receive Ordinary) w.pod) w.lent
    obeyed-same asked.Shutdown first =
        telling-same (says first _) Idle Idle refl (with_initialised false (with_words (with_error (w.pod.words.error || true) w.pod.words) (shut w.pod))) w.lent

    heard-same : (r : Parsed)
        → over_room (given (answered (packet_heard r a.lent a.pod) room)) a
        ≡ held (Load h k) l (over_room (given (answered (packet_heard r b.lent b.pod) room)) b)
    unfolding packet_heard obey_of
    heard-same Nothing = telling-same silent (Load h k) (Load h j) refl w.pod w.lent
    heard-same (Error first n) = telling-same (says first (refused n)) (Load h k) (Load h j) refl (shut w.pod) w.lent
    heard-same (Acknowledgement first one) =
        rw (acknowledged-words first one a.pod.words w.pod, acknowledged-words first one b.pod.words w.pod)
        (telling-same silent (Load h k) (Load h j) refl (with_words w.pod.words (acknowledged_of first one w.pod)) w.lent)
    heard-same (Asked c) =
        let first = (command_row c).code in
        ran-two (λ o q. over_room (given (answered (replied first o) room)) a ≡ held (Load h k) l (over_room (given (answered (replied first q) room)) b))
        (checks-same c a.pod.words b.pod.words (shut w.pod))
        (λ n. telling-same (says first (refused n)) (Load h k) (Load h j) refl (shut w.pod) w.lent) (λ q. obeyed-same c first)

  -- a refused call leaves them; no other call but a table word tells them apart
  step_same : {c : Call} → Other c → step a c ≡ held (Load h k) l (step b c)
  unfolding step power_call packet_call put_call lone_call samples_call fresh_pod start_words
  step_same powers = ran-two (λ o q. over_tables o a ≡ held (Load h k) l (over_tables q b)) refl (λ n. refl) (λ q. refl)
  step_same (sends d room) =
      ran-two (λ o q. over_room o a ≡ held (Load h k) l (over_room q b)) (rw sound_same) (λ n. refl) (λ q. heard-same room (packet_read d))
  step_same (puts s d) = ran-two (λ o q. over_store s o a ≡ held (Load h k) l (over_store s q b)) (rw sound_same) (λ n. refl) (λ q. refl)
  step_same (touches c) =
      ran-two (λ o q. over_sent o a ≡ held (Load h k) l (over_sent q b)) (rows_alike c a.pod b.pod sound_same refl refl) (λ n. refl) (λ q. refl)
  step_same (shows i xs) = ran-two (λ o q. over_frames o a ≡ held (Load h k) l (over_frames q b)) (rw sound_same) (λ n. refl) (λ q. refl)

-- so of a world with an open load
module _ (h : Header) (k : ℕ) (along : k < h.n) (l : List ℕ) (w : World) (j : ℕ) (before : j < h.n) (opened : w.pod.words.transfer ≡ Load h j) where
  as_held : w ≡ hold (Load h j) w.lent.load w
  as_held = ap (λ (u : Transfer). hold u w.lent.load w) opened

  pub sound_held : sound_pod (hold (Load h k) l w).pod ≡ sound_pod w.pod
  sound_held = sound_same h k j along before l w.lent.load w ∙ ap (λ (v : World). sound_pod v.pod) (sym as_held)

  pub other-held : {c : Call} → Other c → step (hold (Load h k) l w) c ≡ held (Load h k) l (step w c)
  other-held {c} o = step_same h k j along before l w.lent.load w o ∙ ap (λ (v : World). held (Load h k) l (step v c)) (sym as_held)
