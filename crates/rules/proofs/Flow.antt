-- The input half by its calls' inputs: no byte is lost, made or moved, whatever one pipe call is.
-- Assumes nothing.
use Prim.Native.Nat.{ℕ}
use native.Mathlib.Omega.{arith}
use mathlib.Core.Path.{◌≡◌, refl, sym, ap, ◌∙◌}
use mathlib.Core.List.{List, [], ◌∷◌, ◌++◌, append-nil, append_assoc}
use mathlib.Core.Option.{Option, none, some}
use lib.ListN.{length, take}
use borrow.Author.Tests.{lt-ltb, le-ltb, eq-eqb, ne_eqb}
use Rattle.pipe.specs.declared.Input.{Input}
use Rattle.pipe.specs.declared.Pipe.{Pipe}
use Rattle.pipe.specs.Input.{held_in, sent_bytes, empty_input, fresh_input, gathers, pipe_byte, count_up, pipe_timeout}
use Rattle.pipe.specs.Pipe.{fresh_pipe}
use Rattle.pipe.proofs.Cases.{byte_cases, timeout_cases}
use Rattle.pipe.proofs.Held.{Whole, length_held, held-gathers, held_empty, listed, whole_empty, whole_gathers}
use Rattle.rules.specs.State.{Lent, fresh_pod}
use Rattle.rules.specs.Obey.{initialised_pod, done_by}
use Rattle.rules.specs.Families.{PipeCall, byte, timeout, packet_out, taken, pipe_of}
use Rattle.rules.specs.World.{Call, final, powered}
use Rattle.rules.specs.History.{lone_as, events, fold}
use Rattle.rules.specs.Halves.{to_aircraft, gave_if, pipe_by, Flow, no_flow, flow_after, flow_moved, flow_by, sent_by, Flows, PipeIsHistory}
use Rattle.rules.proofs.Lone.{moved_by}
use Rattle.rules.proofs.Eventful.{quiet, anew, initialised, slept, updated, wrote, began, closed, acknowledged, shelved, spoken, touched}
use Rattle.rules.proofs.Histories.{Keeps, history, both, fold-both, powered_fresh}
use Rattle.rules.proofs.Untouched.{acknowledged_untouched}

-- an input as the code can hold it, by the history
pub record Flowing (i : Input) (s : List ℕ) (f : Flow) : Type 0 where
  pub flows : Flows i s f
  pub whole : Whole i

-- nothing sent and nothing gathered
pub flow-begun : Flowing fresh_pipe.input [] no_flow
unfolding fresh_pipe fresh_input empty_input held_in
flow-begun = record { flows = record { conserved = refl; gathered = refl; counted = refl }; whole = whole_empty 0 }

-- as many are gathered by the history as the input says
pub many_gathered : (i : Input) (s : List ℕ) (f : Flow) → Flowing i s f → length f.gathered ≡ i.gathered
many_gathered i s f x = ap (λ (l : List ℕ). length l) (sym x.flows.gathered) ∙ length_held x.whole

module _ (i : Input) (s : List ℕ) (f : Flow) (x : Flowing i s f) where
  accepted_more : (b : ℕ) → s ++ (held_in i ++ (b ∷ [])) ≡ f.accepted ++ (b ∷ [])
  accepted_more b = sym (append_assoc s (held_in i) (b ∷ [])) ∙ ap (λ (l : List ℕ). l ++ (b ∷ [])) x.flows.conserved

  byte_flows : (b : ℕ) → Flowing (pipe_byte i b).input (s ++ sent_bytes (pipe_byte i b).sent) (flow_after (byte b) f)
  unfolding flow_after empty_input gathers
  byte_flows b =
      byte_cases (λ p. Flowing p.input (s ++ sent_bytes p.sent) (flow_after (byte b) f)) i b
      (λ l.
      rw (many_gathered i s f x, lt-ltb i.gathered 7 l, listed [], append-nil s)
      (record {
        flows = record {
          conserved = ap (λ (h : List ℕ). s ++ h) (held-gathers b x.whole) ∙ accepted_more b;
          gathered = held-gathers b x.whole ∙ ap (λ (h : List ℕ). h ++ (b ∷ [])) x.flows.gathered;
          counted = x.flows.counted;
        };
        whole = whole_gathers b l x.whole;
      }))
      (λ l.
      rw (many_gathered i s f x, le-ltb i.gathered 7 l, listed (held_in i ++ (b ∷ [])))
      (record {
        flows = record { conserved = rw (held_empty i.timeouts) (append-nil _ ∙ accepted_more b); gathered = held_empty i.timeouts; counted = x.flows.counted };
        whole = whole_empty i.timeouts;
      }))

  -- none gathered, none held
  none_held : i.gathered ≡ 0 → held_in i ≡ []
  unfolding held_in
  none_held e = ap (λ (n : ℕ). take n i.bytes) e

  timeout_flows : Flowing (pipe_timeout i).input (s ++ sent_bytes (pipe_timeout i).sent) (flow_after timeout f)
  unfolding flow_after empty_input count_up
  timeout_flows =
      timeout_cases (λ p. Flowing p.input (s ++ sent_bytes p.sent) (flow_after timeout f)) i
      (λ l.
      rw (many_gathered i s f x, eq-eqb i.gathered 0 l, listed [], append-nil s)
      (record { flows = record { conserved = x.flows.conserved; gathered = none_held l; counted = x.flows.counted }; whole = x.whole }))
      (λ l.
      rw (many_gathered i s f x, ne_eqb i.gathered 0 (λ e. omega arith), listed (held_in i))
      (record {
        flows = record {
          conserved = rw (held_empty (count_up i.timeouts)) (append-nil _ ∙ x.flows.conserved);
          gathered = held_empty (count_up i.timeouts);
          counted = omega (arith, x.flows.counted);
        };
        whole = whole_empty (count_up i.timeouts);
      }))

-- each pipe call, by what it puts in and what it sent
pub pipe_flows : (c : PipeCall) (p : Pipe) (s : List ℕ) (f : Flow) → Flowing p.input s f
    → Flowing (pipe_of c p).pod.input (s ++ gave_if to_aircraft (some c) (sent_bytes (pipe_of c p).lent)) (flow_after c f)
unfolding pipe_of flow_after
pipe_flows (byte b) p s f x = byte_flows p.input s f x b
pipe_flows timeout p s f x = timeout_flows p.input s f x
pipe_flows (packet_out b) p s f x = rw (append-nil s) x
pipe_flows taken p s f x = rw (append-nil s) x

-- or none
moved_flows : (m : Option PipeCall) (p : Pipe) (s : List ℕ) (f : Flow) → Flowing p.input s f
    → Flowing (moved_by m p).pod.input (s ++ gave_if to_aircraft m (sent_bytes (moved_by m p).lent)) (flow_moved m f)
moved_flows none p s f x = rw (append-nil s) x
moved_flows (some c) p s f x = pipe_flows c p s f x

-- ---- over every run of calls

flow-kept : Keeps (both sent_by flow_by) (λ w a. Flowing w.pod.pipe.input a.0 a.1)
unfolding pipe_by done_by initialised_pod fresh_pod
flow-kept w _ _ quiet a x = x
flow-kept w _ _ anew a x = flow-begun
flow-kept w _ _ (initialised f) a x = flow-begun
flow-kept w _ _ (slept e) a x = x
flow-kept w _ _ (updated f) a x = x
flow-kept w _ _ (wrote id v e) a x = x
flow-kept w _ _ (began y e h) a x = x
flow-kept w _ _ closed a x = x
flow-kept w _ _ (acknowledged first one e) a x = rw (acknowledged_untouched first one w.pod).pipe x
flow-kept w _ _ (shelved s b k) a x = x
flow-kept w _ _ (spoken c k) a x = x
flow-kept w _ _ (touched c k) a x = moved_flows (lone_as c).moves w.pod.pipe a.0 a.1 x

pub flowing_is : (l : Lent) (cs : List Call)
    → Flowing (final (powered l) cs).pod.pipe.input (fold sent_by [] (events (powered l) cs)) (fold flow_by no_flow (events (powered l) cs))
unfolding fresh_pod
flowing_is l cs =
    rw (fold-both sent_by flow_by (events (powered l) cs) ([], no_flow)) at
    (history (both sent_by flow_by) (λ w a. Flowing w.pod.pipe.input a.0 a.1) flow-kept cs (powered l) ([], no_flow)
    (rw (powered_fresh l) flow-begun))

pub pipe_is_history : PipeIsHistory
pipe_is_history l cs = (flowing_is l cs).flows
