-- What the pod means, in the aircraft's words; and that the aircraft reads exactly that.
-- Assumes nothing.
use Rattle.std.specs.Prelude.{ℕ, ◌<◌, ◌^◌, ◌≡◌, Bool, true, false, not, ◌&&◌, ◌||◌, List, eqb, ltb, take}
use Rattle.rows.specs.Rows.{Said, refused, gave}
use Rattle.blocks.specs.Stores.{capacity_of, oldest_of}
use Rattle.packets.specs.declared.Command.{Command}
use Rattle.packets.specs.declared.Command.TheVariants as command
use Rattle.packets.specs.Commands.{command_row}
use Rattle.params.specs.Rules.{in_span, stored}
use Rattle.rules.specs.declared.Pod.{Pod}
use Rattle.rules.specs.State.{Lent, store_in, ring_of, sound_pod}
use Rattle.rules.specs.Refusals.{bytes, all_row}
use Rattle.rules.specs.Obey.{Meant, success, report, value, block, shut, obey_of, report_of}
use Rattle.rules.specs.Calls.{reply_bytes}
use Rattle.rules.specs.World.{World, packet, step}
use Rattle.airframe.specs.Building.{command_fits, command_wide, command_built}
use Rattle.airframe.specs.Reading.{Meant as Read, done, failed, status, value as valued, block as blocked, read_as}

-- what the pod's reply tells: an error's number, success, a report with request 0, a value with its id, the oldest block of a store
unfoldable pub told_by : Said Meant → Pod → Lent → Read
told_by (refused n) p l = failed n
told_by (gave success) p l = done
told_by (gave report) p l = status (report_of p) 0
told_by (gave (value id v)) p l = valued id v
told_by (gave (block s)) p l = blocked (oldest_of (capacity_of s) (ring_of s p) (store_in s l))

-- a pod within its bounds whose numbers fit their widths: flags are the one number that an answer shows and no bound limits
pub record Narrow (p : Pod) : Type 0 where
  pub sound : sound_pod p ≡ true
  pub flags : p.fields.flags < 2 ^ 16

-- "a pod's answer must be read as what the pod meant": of every command's reply
abbrev pub MeantIsRead : Type 0
MeantIsRead =
    (c : Command) (l : Lent) (p : Pod) → Narrow p → (all_row l).holds ≡ false
    → read_as (command_row c).code (reply_bytes (command_row c).code (obey_of c l (shut p)).said (obey_of c l (shut p)).pod (obey_of c l (shut p)).lent)
    ≡ gave (told_by (obey_of c l (shut p)).said (obey_of c l (shut p)).pod (obey_of c l (shut p)).lent)

-- one exchange: a built command handed to any such world that does not refuse it, and its answer handed to the reader, gives the
-- reply of the rules
abbrev pub ExchangeIsRead : Type 0
ExchangeIsRead =
    (c : Command) (lent : List ℕ) (n : ℕ) (w : World) (room : List ℕ) (k : ℕ) → command_wide c ≡ true → w.pod.fields.flags < 2 ^ 16
    → (command_built c lent).said ≡ gave n
    → (step w (packet (take n (command_built c lent).lent) room)).told.said ≡ gave (bytes k)
    → read_as (command_row c).code (take k (step w (packet (take n (command_built c lent).lent) room)).told.bytes)
    ≡ gave (told_by (obey_of c w.lent (shut w.pod)).said (obey_of c w.lent (shut w.pod)).pod (obey_of c w.lent (shut w.pod)).lent)

-- two replies to one command that tell the same are the same: nothing that the pod means is lost
abbrev pub ToldApart : Type 0
ToldApart =
    (c : Command) (l m : Lent) (p q : Pod)
    → told_by (obey_of c l (shut p)).said (obey_of c l (shut p)).pod (obey_of c l (shut p)).lent
    ≡ told_by (obey_of c m (shut q)).said (obey_of c m (shut q)).pod (obey_of c m (shut q)).lent
    → (obey_of c l (shut p)).said ≡ (obey_of c m (shut q)).said

-- ---- the bounds of both ends

-- what a packet can hold: "upper 22 bits seconds"
unfoldable pub holdable : Command → Bool
holdable (command.Initialise f) = ltb f.seconds (2 ^ 22)
holdable command.Status = true
holdable (command.Update f) = ltb f.seconds (2 ^ 22)
holdable (command.Write id v) = true
holdable (command.Read id) = true
holdable command.Priority = true
holdable command.Data = true
holdable command.Shutdown = true

-- the ids of the span's two ends
unfoldable pub is_end : ℕ → Bool
is_end id = eqb id 1 || eqb id 2

-- what only the pod judges: a write of one of them that would leave 1 not below 2
unfoldable pub spoils_span : Command → Pod → Bool
spoils_span (command.Initialise f) p = false
spoils_span command.Status p = false
spoils_span (command.Update f) p = false
spoils_span (command.Write id v) p = is_end id && not (in_span (stored p.params id v))
spoils_span (command.Read id) p = false
spoils_span command.Priority p = false
spoils_span command.Data p = false
spoils_span command.Shutdown p = false

-- what an initialised pod says, beside what the aircraft judges: 0x39 to what the aircraft refuses by 20 and to what only the pod
-- judges, and to nothing else
pub record Shared (c : Command) (p : Pod) (said : Said Meant) : Type 0 where
  pub outside : holdable c ≡ true → command_fits c ≡ false → said ≡ refused 0x39
  pub spoilt : spoils_span c p ≡ true → said ≡ refused 0x39
  pub only : said ≡ refused 0x39 → spoils_span c p ≡ false → command_fits c ≡ false

-- "a field outside document 01's bounds (20; that 1 stays below 2 only the pod judges)": the bounds are the pod's own
abbrev pub BoundsShared : Type 0
BoundsShared = (c : Command) (l : Lent) (p : Pod) → sound_pod p ≡ true → p.initialised ≡ true → Shared c p (obey_of c l p).said

pub record BothEnds : Type 0 where
  pub meant_is_read : MeantIsRead
  pub exchange_is_read : ExchangeIsRead
  pub told-apart : ToldApart
  pub bounds_shared : BoundsShared
