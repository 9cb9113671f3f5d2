-- The output half by its calls: what is shown to the camera are the first bytes of each accepted packet, in order.
-- Assumes nothing.
use Prim.Native.Nat.{ℕ, ◌+◌, min}
use native.Mathlib.Omega.{arith}
use mathlib.Core.Path.{◌≡◌, refl, sym, ap, ◌∙◌}
use mathlib.Core.Bool.{true, false, cond}
use mathlib.Core.List.{List, [], ◌∷◌, ◌++◌, append-nil, append_assoc}
use mathlib.Core.Option.{Option, none, some}
use lib.Dec.{leb, eqb}
use lib.ListN.{length, take, drop, length-drop}
use lib.Seq.{drop-drop, take-add}
use borrow.Author.Tests.{leb-false, le-leb, eq-eqb, ne_eqb}
use Rattle.rows.proofs.Bool.{split, and_both}
use Rattle.pipe.specs.declared.Output.{Output}
use Rattle.pipe.specs.declared.Pipe.{Pipe}
use Rattle.pipe.specs.Input.{sent_bytes, count_up}
use Rattle.pipe.specs.Output.{held_out, shown_out, fresh_output, output_packet, output_taken, output_timeout, busy_of}
use Rattle.pipe.specs.Pipe.{fresh_pipe}
use Rattle.pipe.proofs.Held.{listed}
use Rattle.pipe.proofs.Hand.{WholeOut, length_out, none_out, held_packet, held-taken, out_timeout_cases, whole_fresh, whole_packet, whole_taken, whole_timeout}
use Rattle.rules.specs.State.{Lent, fresh_pod}
use Rattle.rules.specs.Obey.{initialised_pod, done_by}
use Rattle.rules.specs.Families.{PipeCall, byte, timeout, packet_out, taken, pipe_of}
use Rattle.rules.specs.World.{Call, rows_of, final, powered}
use Rattle.rules.specs.History.{lone_as, events, fold}
use Rattle.rules.specs.Halves.{to_camera, gave_if, pipe_by, Packet, packet_over, Handing, handing, no_handing, in_hand, bytes_shown, all_over, cut_last, taken_last, handing_after, handing_moved, handing_by, shown_by, Hands, HandedIsHistory}
use Rattle.rules.proofs.Lone.{Fits, lone_fits, moved_by}
use Rattle.rules.proofs.Eventful.{quiet, anew, initialised, slept, updated, wrote, began, closed, acknowledged, shelved, spoken, touched}
use Rattle.rules.proofs.Histories.{Keeps, history, both, fold-both, powered_fresh}
use Rattle.rules.proofs.Untouched.{acknowledged_untouched}

-- an output as the code can hold it, by the history
pub record Handled (o : Output) (s : List ℕ) (h : Handing) : Type 0 where
  pub hands : Hands o s h
  pub whole : WholeOut o

-- as many are in hand as the output says
counts : {o : Output} → WholeOut o → (l : List ℕ) → held_out o ≡ l → o.hand ≡ length l
counts {o} w l e = sym (length_out w) ∙ ap (λ (k : List ℕ). length k) e

-- as many are in hand by the history as the output says
pub many_held : (o : Output) (s : List ℕ) (h : Handing) → Handled o s h → length (in_hand h.packets) ≡ o.hand
many_held o s h x = sym x.hands.count

-- ---- packets

-- cut or not, the bytes shown are the same, and none is in hand
shown_cut : (qs : List Packet) → bytes_shown (cut_last qs) ≡ bytes_shown qs
unfolding bytes_shown
shown_cut [] = refl
shown_cut (q ∷ qs) = refl

hand_cut : (qs : List Packet) → in_hand (cut_last qs) ≡ []
hand_cut [] = refl
hand_cut (q ∷ qs) = refl

over_cut : (qs : List Packet) → drop 1 (cut_last qs) ≡ drop 1 qs
over_cut [] = refl
over_cut (q ∷ qs) = refl

over_taken : (qs : List Packet) → drop 1 (taken_last qs) ≡ drop 1 qs
over_taken [] = refl
over_taken (q ∷ qs) = refl

-- one more taken: one fewer in hand, and the next is shown
hand_taken : (qs : List Packet) → in_hand (taken_last qs) ≡ drop 1 (in_hand qs)
hand_taken [] = refl
hand_taken (q ∷ qs) = split q.cut (λ e. rw e) (λ e. rw e (sym (drop-drop 1 q.takens q.bytes)))

shown-taken : (qs : List Packet) → bytes_shown (taken_last qs) ≡ bytes_shown qs ++ take 1 (drop 1 (in_hand qs))
unfolding bytes_shown
shown-taken [] = refl
shown-taken (q ∷ qs) =
    split q.cut (λ e. rw e (sym (append-nil _)))
    (λ e. rw (e, drop-drop 1 q.takens q.bytes) (ap (λ (l : List ℕ). bytes_shown qs ++ l) (take-add (q.takens + 1) 1 q.bytes) ∙ sym (append_assoc (bytes_shown qs) _ _)))

-- with none in hand all packets are over
all_over_lem : (qs : List Packet) → length (in_hand qs) ≡ 0 → all_over (drop 1 qs) ≡ true → all_over qs ≡ true
unfolding all_over
all_over_lem [] gone h = h
all_over_lem (q ∷ qs) gone h = and_both {a = packet_over q} (split q.cut (λ e. rw e) (λ e. rw (e, ended e))) h
  where
    ended : q.cut ≡ false → leb (length q.bytes) q.takens ≡ true
    ended e =
        let left : length (drop q.takens q.bytes) ≡ 0 = rw e at gone in
        le-leb (length q.bytes) q.takens (omega (arith, left, length-drop q.takens q.bytes))

-- ---- each pipe call

-- nothing in hand and nothing counted, whatever was shown before
emptied : (s : List ℕ) (h : Handing) → s ≡ bytes_shown h.packets → all_over (drop 1 h.packets) ≡ true
    → Handled fresh_pipe.output s (handing (cut_last h.packets) 0)
unfolding fresh_pipe fresh_output held_out
emptied s h e o =
    record {
      hands = record { answered = e ∙ sym (shown_cut h.packets); hand = sym (hand_cut h.packets); count = ap (λ (l : List ℕ). length l) (sym (hand_cut h.packets)); counted = refl; over = rw (over_cut h.packets) o };
      whole = whole_fresh;
    }

-- the byte that a call shows, and the timeouts, which no call but a timeout counts
taken-shows : (o : Output) → sent_bytes (output_taken o).sent ≡ shown_out (output_taken o).output
unfolding output_taken
taken-shows o = listed _

taken_counts : (o : Output) → (output_taken o).output.timeouts ≡ o.timeouts
unfolding output_taken
taken_counts o = refl

packet_shows : (o : Output) (b : List ℕ) → sent_bytes (output_packet o b).sent ≡ take 1 b
unfolding output_packet held_out
packet_shows o b = listed _

packet_counts : (o : Output) (b : List ℕ) → (output_packet o b).output.timeouts ≡ o.timeouts
unfolding output_packet
packet_counts o b = refl

-- not busy, none is in hand
none_busy : (o : Output) → busy_of o ≡ false → o.hand ≡ 0
unfolding busy_of
none_busy o idle = let few = leb-false 1 o.hand idle in omega (arith, few)

module _ (o : Output) (s : List ℕ) (h : Handing) (x : Handled o s h) where
  timeout_hands : Handled (output_timeout o) s (handing_after timeout h)
  unfolding handing_after count_up
  timeout_hands =
      let many = many_held o s h x in
      let held = out_timeout_cases (λ p. held_out p ≡ []) o (none_out o x.whole.long) (λ e. none_out _ x.whole.long refl) ∙ sym (hand_cut h.packets) in
      record {
        hands = record {
          answered = x.hands.answered ∙ sym (shown_cut h.packets);
          hand = held;
          count = counts (whole_timeout x.whole) _ held;
          counted =
              out_timeout_cases (λ p. p.timeouts ≡ min (cond (eqb (length (in_hand h.packets)) 0) h.timeouts (h.timeouts + 1)) 15) o
              (λ e. rw (many, eq-eqb o.hand 0 e) x.hands.counted)
              (λ e. rw (many, ne_eqb o.hand 0 (λ z. omega arith)) (omega (arith, x.hands.counted)));
          over = rw (over_cut h.packets) x.hands.over;
        };
        whole = whole_timeout x.whole;
      }

  taken_hands : Handled (output_taken o).output (s ++ sent_bytes (output_taken o).sent) (handing_after taken h)
  unfolding handing_after
  taken_hands =
      let held = held-taken x.whole ∙ ap (λ (l : List ℕ). drop 1 l) x.hands.hand in
      let next : sent_bytes (output_taken o).sent ≡ take 1 (drop 1 (in_hand h.packets)) = taken-shows o ∙ ap (λ (l : List ℕ). take 1 l) held in
      record {
        hands = record {
          answered = rw (next, x.hands.answered) (sym (shown-taken h.packets));
          hand = held ∙ sym (hand_taken h.packets);
          count = counts (whole_taken x.whole) _ (held ∙ sym (hand_taken h.packets));
          counted = taken_counts o ∙ x.hands.counted;
          over = rw (over_taken h.packets) x.hands.over;
        };
        whole = whole_taken x.whole;
      }

  packet_hands : (b : List ℕ) → length b ≡ 8 → busy_of o ≡ false
      → Handled (output_packet o b).output (s ++ sent_bytes (output_packet o b).sent) (handing_after (packet_out b) h)
  unfolding handing_after bytes_shown
  packet_hands b eight idle =
      record {
        hands = record {
          answered = rw (packet_shows o b, x.hands.answered);
          hand = held_packet o b;
          count = counts (whole_packet o b eight) _ (held_packet o b);
          counted = packet_counts o b ∙ x.hands.counted;
          over = all_over_lem h.packets (many_held o s h x ∙ none_busy o idle) x.hands.over;
        };
        whole = whole_packet o b eight;
      }

-- each pipe call, by what it puts in and what it showed
pipe_hands : (c : PipeCall) (p : Pipe) → Fits (some c) p → (s : List ℕ) (h : Handing) → Handled p.output s h
    → Handled (pipe_of c p).pod.output (s ++ gave_if to_camera (some c) (sent_bytes (pipe_of c p).lent)) (handing_after c h)
unfolding pipe_of handing_after
pipe_hands (byte b) p k s h x = rw (append-nil s) x
pipe_hands timeout p k s h x = rw (append-nil s) (timeout_hands p.output s h x)
pipe_hands (packet_out b) p k s h x = packet_hands p.output s h x b k.0 k.1
pipe_hands taken p k s h x = taken_hands p.output s h x

-- or none
moved_hands : (m : Option PipeCall) (p : Pipe) → Fits m p → (s : List ℕ) (h : Handing) → Handled p.output s h
    → Handled (moved_by m p).pod.output (s ++ gave_if to_camera m (sent_bytes (moved_by m p).lent)) (handing_moved m h)
moved_hands none p k s h x = rw (append-nil s) x
moved_hands (some c) p k s h x = pipe_hands c p k s h x

-- ---- over every run of calls

hands_kept : Keeps (both shown_by handing_by) (λ w a. Handled w.pod.pipe.output a.0 a.1)
unfolding rows_of pipe_by done_by initialised_pod fresh_pod
hands_kept w _ _ quiet a x = x
hands_kept w _ _ anew a x = emptied a.0 a.1 x.hands.answered x.hands.over
hands_kept w _ _ (initialised f) a x = emptied a.0 a.1 x.hands.answered x.hands.over
hands_kept w _ _ (slept e) a x = x
hands_kept w _ _ (updated f) a x = x
hands_kept w _ _ (wrote id v e) a x = x
hands_kept w _ _ (began y e h) a x = x
hands_kept w _ _ closed a x = x
hands_kept w _ _ (acknowledged first one e) a x = rw (acknowledged_untouched first one w.pod).pipe x
hands_kept w _ _ (shelved s b k) a x = x
hands_kept w _ _ (spoken c k) a x = x
hands_kept w _ _ (touched c k) a x = moved_hands (lone_as c).moves w.pod.pipe (lone_fits c w.pod k) a.0 a.1 x

pub handed_is : (l : Lent) (cs : List Call)
    → Handled (final (powered l) cs).pod.pipe.output (fold shown_by [] (events (powered l) cs)) (fold handing_by no_handing (events (powered l) cs))
unfolding fresh_pod bytes_shown all_over
handed_is l cs =
    rw (fold-both shown_by handing_by (events (powered l) cs) ([], no_handing)) at
    (history (both shown_by handing_by) (λ w a. Handled w.pod.pipe.output a.0 a.1) hands_kept cs (powered l) ([], no_handing)
    (rw (powered_fresh l) (emptied [] no_handing refl refl)))

pub handed_is_history : HandedIsHistory
handed_is_history l cs = (handed_is l cs).hands
