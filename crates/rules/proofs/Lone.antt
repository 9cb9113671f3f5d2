-- The calls that are lent nothing: two laws of each, its rows by document 01's table and its effect by the history. The rest follows.
-- Assumes nothing.
use mathlib.Core.Path.{◌≡◌, refl}
use mathlib.Core.Bool.{Bool, true, false, ◌||◌, cond}
use mathlib.Core.List.{[]}
use mathlib.Core.Option.{Option, none, some}
use lib.ListN.{length}
use borrow.Author.Tests.{eqb-true}
use Rattle.rows.specs.Rows.{Clear, out, rising, held}
use Rattle.rows.proofs.Bool.{never, not-false}
use Rattle.rows.proofs.Lowest.{clear_held}
use Rattle.pipe.specs.declared.Pipe.{Pipe}
use Rattle.pipe.specs.Input.{sent_packet, sent_bytes}
use Rattle.pipe.specs.Output.{busy_of}
use Rattle.rules.specs.declared.Exchange.TheVariants.{Closed}
use Rattle.rules.specs.declared.Pod.{Pod}
use Rattle.rules.specs.State.{sound_pod}
use Rattle.rules.specs.Families.{PipeCall, byte, timeout, packet_out, taken, Sends, pipe_of, LoneCall, deadline, pipe, Reach, reach, lone_of}
use Rattle.rules.specs.Calls.{lone_rows}
use Rattle.rules.specs.Numbered.{lone_rises}
use Rattle.rules.specs.History.{Touch, lone_as}
use Rattle.rules.specs.Said.{is_move}

-- ---- its rows

-- they look at whether the state is sound, whether the pod is initialised, and its pipe
pub rows_alike : (c : LoneCall) (p q : Pod) → sound_pod p ≡ sound_pod q → p.initialised ≡ q.initialised → p.pipe ≡ q.pipe
    → lone_rows c p ≡ lone_rows c q
rows_alike deadline p q sound on same = rw sound
rows_alike (pipe (byte b)) p q sound on same = rw (sound, on)
rows_alike (pipe timeout) p q sound on same = rw (sound, on)
rows_alike (pipe (packet_out b)) p q sound on same = rw (sound, on, same)
rows_alike (pipe taken) p q sound on same = rw (sound, on)

pub lone_rise : (c : LoneCall) (p : Pod) → lone_rises c ≡ true → rising 0 (lone_rows c p) ≡ true
unfolding rising
lone_rise deadline p e = refl
lone_rise (pipe (byte b)) p e = refl
lone_rise (pipe timeout) p e = refl
lone_rise (pipe (packet_out b)) p e = never e refl
lone_rise (pipe taken) p e = refl

-- where none of them holds, a packet out has eight bytes, and none is being handed over
abbrev pub Fits : Option PipeCall → Pipe → Type 0
Fits none i = Unit {0}
Fits (some (byte b)) i = Unit {0}
Fits (some timeout) i = Unit {0}
Fits (some (packet_out b)) i = (length b ≡ 8) × (busy_of i.output ≡ false)
Fits (some taken) i = Unit {0}

or_first : (a b : Bool) → (a || b) ≡ false → a ≡ false
or_first true b h = h
or_first false b h = refl

pub lone_fits : (c : LoneCall) (p : Pod) → Clear (lone_rows c p) → Fits (lone_as c).moves p.pipe
unfolding held
lone_fits deadline p k = tt
lone_fits (pipe (byte b)) p k = tt
lone_fits (pipe timeout) p k = tt
lone_fits (pipe (packet_out b)) p k =
    (eqb-true (length b) 8 (not-false (or_first _ _ (clear_held k 22))), or_first _ _ (clear_held k 21))
lone_fits (pipe taken) p k = tt

-- ---- its effect

-- the pipe after the pipe call that it is, if any
abbrev pub moved_by : Option PipeCall → Pipe → Sends Pipe
moved_by none i = out tt i (sent_packet [])
moved_by (some c) i = pipe_of c i

-- the effect of what the history takes it for
abbrev pub touch_of : Touch → Reach → Sends Reach
touch_of t r = let o = moved_by t.moves r.pipe in out tt (reach (cond t.closes Closed r.exchange) o.pod) o.lent

pub lone_is : (c : LoneCall) (r : Reach) → lone_of c r ≡ touch_of (lone_as c) r
unfolding lone_of
lone_is deadline r = refl
lone_is (pipe c) r = refl

-- none but a pipe call gives bytes
pub unsent : (m : Option PipeCall) (i : Pipe) → is_move m ≡ false → sent_bytes (moved_by m i).lent ≡ []
unfolding sent_bytes sent_packet
unsent none i e = refl
unsent (some c) i e = never refl e
