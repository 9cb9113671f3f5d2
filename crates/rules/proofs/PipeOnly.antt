-- A pipe call touches nothing but the pipe, and of the two halves its own.
-- Assumes nothing.
use Prim.Native.Nat.{ℕ}
use mathlib.Core.Path.{◌≡◌, refl}
use mathlib.Core.Bool.{true}
use Rattle.rows.proofs.Bool.{never}
use Rattle.pipe.specs.declared.Pipe.{Pipe}
use Rattle.rules.specs.State.{with_pipe}
use Rattle.rules.specs.Families.{PipeCall, byte, timeout, packet_out, taken, pipe_of, pipe, lone_of}
use Rattle.rules.specs.World.{World, with_pod, lone, Stepped}
use Rattle.rules.specs.Halves.{to_camera, PipeOnly}
use Rattle.rules.proofs.Happens.{Happens, by_rows, by_lone, happens}

only : {w : World} {c : PipeCall} {s : Stepped} → Happens w (lone (pipe c)) s → s.world ≡ with_pod (with_pipe s.world.pod.pipe w.pod) w
unfolding lone_of
only (by_rows c n f) = refl
only (by_lone c k) = refl

camera_half : (c : PipeCall) (p : Pipe) → to_camera c ≡ true → (pipe_of c p).pod.input ≡ p.input
unfolding pipe_of
camera_half (byte b) p e = never e refl
camera_half timeout p e = never e refl
camera_half (packet_out b) p e = refl
camera_half taken p e = refl

input_kept : {w : World} {c : PipeCall} {s : Stepped} → Happens w (lone (pipe c)) s → to_camera c ≡ true
    → s.world.pod.pipe.input ≡ w.pod.pipe.input
unfolding lone_of
input_kept (by_rows c n f) e = refl
input_kept {w} {c} (by_lone d k) e = camera_half c w.pod.pipe e

output_kept : {w : World} {b : ℕ} {s : Stepped} → Happens w (lone (pipe (byte b))) s → s.world.pod.pipe.output ≡ w.pod.pipe.output
unfolding lone_of pipe_of
output_kept (by_rows c n f) = refl
output_kept (by_lone c k) = refl

pub pipe_only : PipeOnly
pipe_only w c = (only (happens w (lone (pipe c))), input_kept (happens w (lone (pipe c))), λ b. output_kept (happens w (lone (pipe (byte b)))))
