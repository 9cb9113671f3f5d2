-- The bounds of both halves as facts, kept by each call.
use Prim.Native.Nat.{ℕ, ◌≤◌}
use mathlib.Core.Path.{◌≡◌, refl}
use mathlib.Core.Bool.{true, and-eq-true_iff}
use mathlib.Core.List.{List}
use native.Mathlib.Omega.{arith}
use borrow.Author.Tests.{leb-true, le-leb}
use lib.Dec.{leb}
use Rattle.pipe.specs.declared.Input.{Input}
use Rattle.pipe.specs.declared.Output.{Output}
use Rattle.pipe.specs.Input.{empty_input, fresh_input, gathers, pipe_byte, count_up, pipe_timeout, sound_input}
use Rattle.pipe.specs.Output.{fresh_output, output_packet, output_taken, output_timeout, sound_output}
use Rattle.pipe.specs.Pipe.{fresh_pipe, sound_pipe}
use Rattle.pipe.proofs.Cases.{byte_cases, timeout_cases}
use Rattle.pipe.proofs.Hand.{out_timeout_cases}

-- a sound input is within its bounds
pub sound_in : (i : Input) → sound_input i ≡ true → (i.gathered ≤ 7) × (i.timeouts ≤ 15)
unfolding sound_input
sound_in i h =
    let both = (and-eq-true_iff (leb i.gathered 7) (leb i.timeouts 15)).0 h in
    (leb-true i.gathered 7 both.0, leb-true i.timeouts 15 both.1)

-- an input within its bounds is sound
pub in_sound : (i : Input) → i.gathered ≤ 7 → i.timeouts ≤ 15 → sound_input i ≡ true
unfolding sound_input
in_sound i g t = rw (le-leb i.gathered 7 g, le-leb i.timeouts 15 t)

-- the fresh pipe is sound
pub fresh_sound : sound_pipe fresh_pipe ≡ true
unfolding sound_pipe fresh_pipe sound_input fresh_input empty_input sound_output fresh_output
fresh_sound = refl

empty_sound : (n : ℕ) → n ≤ 15 → sound_input (empty_input n) ≡ true
unfolding empty_input
empty_sound n h = in_sound (empty_input n) (omega arith) h

-- a byte keeps an input sound
pub byte_sound : (i : Input) (b : ℕ) → sound_input i ≡ true → sound_input (pipe_byte i b).input ≡ true
unfolding gathers
byte_sound i b h =
    let s = sound_in i h in
    byte_cases (λ p. sound_input p.input ≡ true) i b (λ l. in_sound (gathers i b) (omega arith) s.1) (λ l. empty_sound i.timeouts s.1)

-- a timeout keeps an input sound
pub timeout_sound : (i : Input) → sound_input i ≡ true → sound_input (pipe_timeout i).input ≡ true
unfolding count_up
timeout_sound i h = timeout_cases (λ p. sound_input p.input ≡ true) i (λ l. h) (λ l. empty_sound (count_up i.timeouts) (omega arith))

-- ---- the output half

pub sound_out : (o : Output) → sound_output o ≡ true → (o.hand ≤ 8) × (o.timeouts ≤ 15)
unfolding sound_output
sound_out o h =
    let both = (and-eq-true_iff (leb o.hand 8) (leb o.timeouts 15)).0 h in
    (leb-true o.hand 8 both.0, leb-true o.timeouts 15 both.1)

pub out_sound : (o : Output) → o.hand ≤ 8 → o.timeouts ≤ 15 → sound_output o ≡ true
unfolding sound_output
out_sound o g t = rw (le-leb o.hand 8 g, le-leb o.timeouts 15 t)

-- a packet keeps an output sound
pub packet_sound : (o : Output) (b : List ℕ) → sound_output o ≡ true → sound_output (output_packet o b).output ≡ true
unfolding output_packet
packet_sound o b h = out_sound _ (omega arith) (sound_out o h).1

-- and a byte taken
pub taken_sound : (o : Output) → sound_output o ≡ true → sound_output (output_taken o).output ≡ true
unfolding output_taken
taken_sound o h = let s = sound_out o h in out_sound _ (omega arith) s.1

-- and a timeout
pub out_timeout_sound : (o : Output) → sound_output o ≡ true → sound_output (output_timeout o) ≡ true
unfolding count_up
out_timeout_sound o h = out_timeout_cases (λ p. sound_output p ≡ true) o (λ l. h) (λ l. out_sound _ (omega arith) (omega arith))
