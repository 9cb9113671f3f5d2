-- The byte pipe's two halves by the calls and what they told: what each was given, and what each gave. Neither is said by the other.
-- Assumes nothing.
use Rattle.std.specs.Prelude.{ℕ, ◌+◌, min, ◌≡◌, Bool, true, false, not, ◌&&◌, ◌||◌, cond, List, [], ◌∷◌, ◌++◌, ltb, leb, eqb, length, take, drop}
use Rattle.std.proofs.Math.Option.{Option, none, some}
use Rattle.pipe.specs.declared.Input.{Input}
use Rattle.pipe.specs.declared.Output.{Output}
use Rattle.pipe.specs.Input.{held_in}
use Rattle.pipe.specs.Output.{held_out}
use Rattle.rules.specs.State.{Lent, with_pipe}
use Rattle.rules.specs.Families.{PipeCall, byte, timeout, packet_out, taken, pipe}
use Rattle.rules.specs.World.{World, with_pod, Call, lone, next, final, powered}
use Rattle.rules.specs.History.{Touch, Event, nothing, begins, sleeps, updates, writes_parameter, opens_exchange, closes_exchange, hears_acknowledgement, puts, words, touches, events, fold}

-- whose bytes go to the aircraft; all others' go to the camera
abbrev pub to_aircraft : PipeCall → Bool
to_aircraft (byte b) = true
to_aircraft timeout = true
to_aircraft (packet_out b) = false
to_aircraft taken = false

abbrev pub to_camera : PipeCall → Bool
to_camera c = not (to_aircraft c)

-- the bytes that a call gave, where it is such a pipe call
abbrev pub gave_if : (PipeCall → Bool) → Option PipeCall → List ℕ → List ℕ
gave_if to none l = []
gave_if to (some c) l = cond (to c) l []

-- a fold over the pipe's events: what power on or an accepted Initialise makes of a history, and what a call does that may move the pipe,
-- with the bytes that it gave; no other event concerns it
unfoldable pub pipe_by : {A : Type 0} → (A → A) → (Touch → List ℕ → A → A) → Event → A → A
pipe_by anew moved nothing a = a
pipe_by anew moved (begins b f) a = anew a
pipe_by anew moved sleeps a = a
pipe_by anew moved (updates f) a = a
pipe_by anew moved (writes_parameter id v) a = a
pipe_by anew moved (opens_exchange x) a = a
pipe_by anew moved closes_exchange a = a
pipe_by anew moved (hears_acknowledgement first one) a = a
pipe_by anew moved (puts s b) a = a
pipe_by anew moved (words c) a = a
pipe_by anew moved (touches t l) a = moved t l a

-- ---- the input half, since the beginning: by the calls' own inputs, and by the bytes that they gave

-- bytes accepted, those of them gathered, timeouts that had bytes to send
pub record Flow : Type 0 where
  pub accepted : List ℕ
  pub gathered : List ℕ
  pub timeouts : ℕ

abbrev pub flow : List ℕ → List ℕ → ℕ → Flow
flow a g n = record { accepted = a; gathered = g; timeouts = n }

abbrev pub no_flow : Flow
no_flow = flow [] [] 0

-- "Pipe bytes gather; the eighth sends all eight."; "The pipe timeout sends a short packet and counts one ..; with none gathered it
-- does nothing."
unfoldable pub flow_after : PipeCall → Flow → Flow
flow_after (byte b) f = flow (f.accepted ++ (b ∷ [])) (cond (ltb (length f.gathered) 7) (f.gathered ++ (b ∷ [])) []) f.timeouts
flow_after timeout f = flow f.accepted [] (cond (eqb (length f.gathered) 0) f.timeouts (f.timeouts + 1))
flow_after (packet_out b) f = f
flow_after taken f = f

-- with no pipe call it is as it was
abbrev pub flow_moved : Option PipeCall → Flow → Flow
flow_moved none f = f
flow_moved (some c) f = flow_after c f

abbrev pub flow_by : Event → Flow → Flow
flow_by = pipe_by (λ f. no_flow) (λ t l f. flow_moved t.moves f)

-- the bytes sent to the aircraft
abbrev pub sent_by : Event → List ℕ → List ℕ
sent_by = pipe_by (λ s. []) (λ t l s. s ++ gave_if to_aircraft t.moves l)

-- an input, by the bytes sent so far and by what the calls put in
pub record Flows (i : Input) (sent : List ℕ) (f : Flow) : Type 0 where
  -- no byte is lost, made or moved
  pub conserved : sent ++ held_in i ≡ f.accepted
  pub gathered : held_in i ≡ f.gathered
  -- "timeouts since Initialise, up to 15", of those that had bytes to send
  pub counted : i.timeouts ≡ min f.timeouts 15

-- the input half is history: since the last power on or accepted Initialise
abbrev pub PipeIsHistory : Type 0
PipeIsHistory =
    (l : Lent) (cs : List Call)
    → Flows (final (powered l) cs).pod.pipe.input (fold sent_by [] (events (powered l) cs)) (fold flow_by no_flow (events (powered l) cs))

-- ---- the output half, of request No. 3

-- a packet that was accepted: its bytes; how many takens came since, before it was cut (past the eighth they show nothing); and whether
-- it was cut, by a timeout, an accepted Initialise or power on
pub record Packet : Type 0 where
  pub bytes : List ℕ
  pub takens : ℕ
  pub cut : Bool

abbrev pub packet_of : List ℕ → ℕ → Bool → Packet
packet_of b n c = record { bytes = b; takens = n; cut = c }

-- "one byte at a time, each byte after the last was taken": the first is shown at once, and one more for each taken
abbrev pub shown_of : Packet → List ℕ
shown_of q = take (q.takens + 1) q.bytes

-- those not taken are in hand, until "the rest of that packet is dropped"
abbrev pub hand_of : Packet → List ℕ
hand_of q = cond q.cut [] (drop q.takens q.bytes)

-- all were taken, or the rest was dropped
abbrev pub packet_over : Packet → Bool
packet_over q = q.cut || leb (length q.bytes) q.takens

-- all packets that were accepted, the last one first, and the timeouts since the last power on or accepted Initialise that dropped
-- something
pub record Handing : Type 0 where
  pub packets : List Packet
  pub timeouts : ℕ

abbrev pub handing : List Packet → ℕ → Handing
handing qs n = record { packets = qs; timeouts = n }

abbrev pub no_handing : Handing
no_handing = handing [] 0

-- the bytes in hand: of the last packet
abbrev pub in_hand : List Packet → List ℕ
in_hand [] = []
in_hand (q ∷ qs) = hand_of q

-- all bytes shown, in the order of the packets
unfoldable pub bytes_shown : List Packet → List ℕ
bytes_shown [] = []
bytes_shown (q ∷ qs) = bytes_shown qs ++ shown_of q

unfoldable pub all_over : List Packet → Bool
all_over [] = true
all_over (q ∷ qs) = packet_over q && all_over qs

-- the last packet is cut
abbrev pub cut_last : List Packet → List Packet
cut_last [] = []
cut_last (q ∷ qs) = packet_of q.bytes q.takens true ∷ qs

-- one more byte of it is taken, unless it was cut
abbrev pub taken_last : List Packet → List Packet
taken_last [] = []
taken_last (q ∷ qs) = packet_of q.bytes (cond q.cut q.takens (q.takens + 1)) q.cut ∷ qs

-- "If the camera stops taking them, the rest of that packet is dropped and an output timeout is counted"; "A taken or a timeout with
-- nothing in hand does nothing."
unfoldable pub handing_after : PipeCall → Handing → Handing
handing_after (byte b) h = h
handing_after timeout h = handing (cut_last h.packets) (cond (eqb (length (in_hand h.packets)) 0) h.timeouts (h.timeouts + 1))
handing_after (packet_out b) h = handing (packet_of b 0 false ∷ h.packets) h.timeouts
handing_after taken h = handing (taken_last h.packets) h.timeouts

abbrev pub handing_moved : Option PipeCall → Handing → Handing
handing_moved none h = h
handing_moved (some c) h = handing_after c h

-- power on, and "Initialise empties this half too and sets its count to 0"
abbrev pub handing_by : Event → Handing → Handing
handing_by = pipe_by (λ h. handing (cut_last h.packets) 0) (λ t l h. handing_moved t.moves h)

-- the bytes shown to the camera, all since the first power on
abbrev pub shown_by : Event → List ℕ → List ℕ
shown_by = pipe_by (λ s. s) (λ t l s. s ++ gave_if to_camera t.moves l)

-- an output, by the bytes shown so far and by the calls
pub record Hands (o : Output) (shown : List ℕ) (h : Handing) : Type 0 where
  -- they are, in order, the first bytes of each accepted packet
  pub answered : shown ≡ bytes_shown h.packets
  pub hand : held_out o ≡ in_hand h.packets
  -- and so 21 is by the history: "a packet while one is being handed over"
  pub count : o.hand ≡ length (in_hand h.packets)
  -- "an output timeout is counted, 15 meaning 15 or more"
  pub counted : o.timeouts ≡ min h.timeouts 15
  -- every packet but the last was handed over whole, or cut
  pub over : all_over (drop 1 h.packets) ≡ true

-- the bytes that packet out and taken answer are, in order, the first bytes of each accepted packet: all eight, or those up to the
-- timeout, accepted Initialise or power on that cut it; of the last packet, those answered so far
abbrev pub HandedIsHistory : Type 0
HandedIsHistory =
    (l : Lent) (cs : List Call)
    → Hands (final (powered l) cs).pod.pipe.output (fold shown_by [] (events (powered l) cs)) (fold handing_by no_handing (events (powered l) cs))

-- ---- neither half sees the other

-- in any world a pipe call touches nothing but the pipe; one whose bytes go to the camera leaves the input half as it was, and a byte
-- from the camera the output half
abbrev pub PipeOnly : Type 0
PipeOnly =
    (w : World) (c : PipeCall)
    → (next w (lone (pipe c)) ≡ with_pod (with_pipe (next w (lone (pipe c))).pod.pipe w.pod) w)
    × (to_camera c ≡ true → (next w (lone (pipe c))).pod.pipe.input ≡ w.pod.pipe.input)
    × ((b : ℕ) → (next w (lone (pipe (byte b)))).pod.pipe.output ≡ w.pod.pipe.output)
