-- The pod with all that is lent to it, every call, and runs of calls: each lent thing goes in as the last call left it.
-- Assumes nothing.
use Rattle.std.specs.Prelude.{ℕ, Bool, true, false, not, List, [], ◌∷◌, ◌++◌, length}
use Rattle.std.proofs.lemmas.List.Edits.{sets}
use Rattle.rows.specs.Rows.{Row, Said, refused, gave}
use Rattle.blocks.specs.declared.Store.{Store}
use Rattle.tables.specs.Tables.{Three}
use Rattle.tables.specs.Port.{Desk}
use Rattle.pipe.specs.declared.Sent.{Sent}
use Rattle.pipe.specs.Input.{sent_bytes}
use Rattle.frames.specs.declared.Frames.{Frames}
use Rattle.rules.specs.declared.Pod.{Pod}
use Rattle.rules.specs.State.{fresh_pod, Lent, store_in, with_store, with_tables, desk_in, with_desk}
use Rattle.rules.specs.Refusals.{Giving, bytes, Out}
use Rattle.rules.specs.Families.{WordCall, LoneCall}
use Rattle.rules.specs.Calls.{power_rows, power_call, Roomed, roomed, packet_rows, packet_call, put_rows, put_call, word_rows, word_call, lone_rows, lone_call, samples_rows, samples_call}

pub record World : Type 0 where
  pub pod : Pod
  pub lent : Lent

abbrev pub world : Pod → Lent → World
world p l = record { pod = p; lent = l }

abbrev pub with_pod : Pod → World → World
with_pod p w = world p w.lent

-- a call, with what it brings; the table words, and the calls that are lent nothing to change, are a family each
pub data Call : Type 0 where
  power : Call
  -- a packet, and the answer room
  packet : List ℕ → List ℕ → Call
  put : Store → List ℕ → Call
  word : WordCall → Call
  lone : LoneCall → Call
  -- the self-check number, and the sample set
  samples : ℕ → List ℕ → Call

-- the answer room that a call is lent; only a packet is lent one
abbrev pub room_of : Call → List ℕ
room_of power = []
room_of (packet b room) = room
room_of (put s b) = []
room_of (word c) = []
room_of (lone c) = []
room_of (samples k xs) = []

-- what a call tells: what it says, and the bytes that it gives: the room after a packet, what the pipe gave, two frames
pub record Told : Type 0 where
  pub said : Said Giving
  pub bytes : List ℕ

abbrev pub told : Said Giving → List ℕ → Told
told s l = record { said = s; bytes = l }

-- an answer told: its length, and "written from the start of the answer room; the rest of the room is kept"
abbrev pub answering : List ℕ → List ℕ → Told
answering room answer = told (gave (bytes (length answer))) (sets room 0 answer)

pub record Stepped : Type 0 where
  pub told : Told
  pub world : World

abbrev pub stepped : Said Giving → List ℕ → Pod → Lent → Stepped
stepped s b p l = record { told = told s b; world = world p l }

-- ---- what each kind of outcome makes of the world

abbrev pub over_tables : Out Three → World → Stepped
over_tables o w = stepped o.said [] o.pod (with_tables o.lent w.lent)

abbrev pub over_room : Out Roomed → World → Stepped
over_room o w = stepped o.said o.lent.room o.pod o.lent.lent

abbrev pub over_store : Store → Out (List ℕ) → World → Stepped
over_store s o w = stepped o.said [] o.pod (with_store s o.lent w.lent)

abbrev pub over_desk : Out Desk → World → Stepped
over_desk o w = stepped o.said [] o.pod (with_desk o.lent w.lent)

abbrev pub over_sent : Out Sent → World → Stepped
over_sent o w = stepped o.said (sent_bytes o.lent) o.pod w.lent

-- refused, no frames are given
abbrev pub frames_in : Said Giving → Frames → List ℕ
frames_in (refused n) f = []
frames_in (gave g) f = f.an03 ++ f.an47

abbrev pub over_frames : Out Frames → World → Stepped
over_frames o w = stepped o.said (frames_in o.said o.lent) o.pod w.lent

-- one call, from the definitions that the pod's functions promise
unfoldable pub step : World → Call → Stepped
step w power = over_tables (power_call w.lent.tables w.pod) w
step w (packet b room) = over_room (packet_call b (roomed room w.lent) w.pod) w
step w (put s b) = over_store s (put_call s b (store_in s w.lent) w.pod) w
step w (word c) = over_desk (word_call c (desk_in w.lent) w.pod) w
step w (lone c) = over_sent (lone_call c w.pod) w
step w (samples k xs) = over_frames (samples_call k xs w.pod) w

-- the rows that apply to a call, in the order in which they are judged
unfoldable pub rows_of : World → Call → List Row
rows_of w power = power_rows w.lent.tables
rows_of w (packet b room) = packet_rows (roomed room w.lent) w.pod
rows_of w (put s b) = put_rows s b (store_in s w.lent) w.pod
rows_of w (word c) = word_rows c w.lent.tables w.pod
rows_of w (lone c) = lone_rows c w.pod
rows_of w (samples k xs) = samples_rows k xs w.pod

abbrev pub next : World → Call → World
next w c = (step w c).world

-- the world after some calls
unfoldable pub final : World → List Call → World
final w [] = w
final w (c ∷ cs) = final (next w c) cs

-- "their answers and table words": at each call what it tells, and the tables after it
pub record Point : Type 0 where
  pub told : Told
  pub tables : Three

abbrev pub point : Stepped → Point
point s = record { told = s.told; tables = s.world.lent.tables }

unfoldable pub run : World → List Call → List Point
run w [] = []
run w (c ∷ cs) = point (step w c) ∷ run (next w c) cs

-- what some calls tell, without the tables
unfoldable pub tells : World → List Call → List Told
tells w [] = []
tells w (c ∷ cs) = (step w c).told ∷ tells (next w c) cs

abbrev pub is_refused : Said Giving → Bool
is_refused (refused n) = true
is_refused (gave g) = false

-- a call that is not refused
abbrev pub is_answered : World → Call → Bool
is_answered w c = not (is_refused (step w c).told.said)

-- from power on, whatever lay in what is lent (where it is refused, a fresh pod with all as it came)
abbrev pub powered : Lent → World
powered l = next (world fresh_pod l) power
