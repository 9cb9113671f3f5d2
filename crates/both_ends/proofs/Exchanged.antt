-- One exchange: a built command handed to the pod, and its answer handed to the reader.
-- Assumes nothing.
use Prim.Native.Nat.{ℕ, ◌≤◌}
use native.Mathlib.Omega.{arith}
use mathlib.Core.Path.{◌≡◌, ap, ◌∙◌}
use mathlib.Core.List.{List}
use lib.ListN.{length, take}
use Rattle.rows.specs.Rows.{Clear, Said, Out}
use Rattle.rows.proofs.Laws.{ran-case, ran_clear}
use Rattle.numbers.proofs.Stores.{sets_taken}
use Rattle.packets.specs.declared.Command.{Command}
use Rattle.packets.specs.declared.Parsed.TheVariants.{Asked}
use Rattle.packets.specs.Commands.{command_row}
use Rattle.packets.specs.Reading.{packet_read}
use Rattle.packets.proofs.Laws.{error_length}
use Rattle.rules.specs.declared.Pod.{Pod}
use Rattle.rules.specs.State.{Lent}
use Rattle.rules.specs.Obey.{Meant, shut, checks_of, obey_of}
use Rattle.rules.specs.Refusals.{Giving}
use Rattle.rules.specs.Calls.{Roomed, packet_heard, reply_bytes, spoken_bytes, answered, packet_call}
use Rattle.rules.specs.World.{World, packet, Told, answering, over_room, step, rows_of}
use Rattle.rules.proofs.Succeeded.{room_at}
use Rattle.rules.proofs.Eventful.{sound_at}
use Rattle.rules.proofs.Answered.{answered_clear}
use Rattle.rules.proofs.Inside.{pod_in, in_shut}
use Rattle.rules.proofs.Checked.{short_answers, answer_long, sized_in, sized_at}
use Rattle.airframe.specs.Building.{command_built}
use Rattle.airframe.specs.Reading.{read_as}
use Rattle.airframe.proofs.Carried.{built_is_read}
use Rattle.both_ends.specs.Ends.{ExchangeIsRead}
use Rattle.both_ends.proofs.MeantRead.{meant_is_read}

module _ (w : World) (b room : List ℕ) (c : Command) (k : Clear (rows_of w (packet b room))) where
  abbrev obeyed : Out (Said Meant) Pod Lent
  obeyed = obey_of c w.lent (shut w.pod)

  abbrev reply : List ℕ
  reply = reply_bytes (command_row c).code obeyed.said obeyed.pod obeyed.lent

  -- the answer is the reply of the rules, in its room
  told_is : packet_read b ≡ Asked c → (step w (packet b room)).told ≡ answering room reply
  unfolding step rows_of packet_call packet_heard answered spoken_bytes
  told_is asked = ap (λ (x : Out (Said Giving) Pod Roomed). (over_room x w).told) (ran_clear _ _ _ k) ∙ rw asked

  -- and is no longer than the least room
  reply_short : length reply ≤ 260
  unfolding obey_of reply_bytes
  reply_short =
      ran-case (λ (x : Out (Said Meant) Pod Lent). length (reply_bytes (command_row c).code x.said x.pod x.lent) ≤ 260) (checks_of c (shut w.pod))
      (λ n f. omega (arith, error_length (command_row c).code n))
      (λ q. rw (answer_long w.lent (shut w.pod) (in_shut (pod_in w.pod (sound_at w b room k))) (sized_in w.lent (sized_at w b room k)) c q) (short_answers c))

pub exchange_is_read : ExchangeIsRead
exchange_is_read c lent n w room m wide flags built said =
    let b = take n (command_built c lent).lent in
    let k = answered_clear w (packet b room) (rw said) in
    let told = told_is w b room c k (built_is_read c lent n wide built) in
    let long : length (reply w b room c k) ≡ m = cc in
    let fits : length (reply w b room c k) ≤ length room = omega (arith, reply_short w b room c k, room_at w b room k) in
    ap (λ (t : Told). read_as (command_row c).code (take m t.bytes)) told
    ∙ ap (read_as (command_row c).code) (sets_taken (reply w b room c k) room m long fits)
    ∙ meant_is_read c w.lent w.pod (record { sound = sound_at w b room k; flags = flags }) (sized_at w b room k)
