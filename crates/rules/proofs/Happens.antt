-- What happens at a call: it is refused by its rows, or a packet is read as something, or the call's effect takes place. Each theorem
-- about one world goes by these cases and never sees `step`, the rows or the checks again.
-- Assumes nothing.
use Prim.Native.Nat.{ℕ}
use mathlib.Core.Path.{◌≡◌, refl}
use mathlib.Core.Bool.{Bool}
use mathlib.Core.List.{List, []}
use Rattle.rows.specs.Rows.{First, Clear, refused, gave, given}
use Rattle.rows.proofs.Laws.{ran-case}
use Rattle.blocks.specs.declared.Store.{Store}
use Rattle.packets.specs.declared.Command.{Command}
use Rattle.packets.specs.declared.Command.TheVariants.{Initialise, Status, Update, Write, Read, Priority, Data, Shutdown}
use Rattle.packets.specs.declared.Parsed.{Parsed}
use Rattle.packets.specs.declared.Parsed.TheVariants.{Nothing, Error, Acknowledgement, Asked}
use Rattle.packets.specs.Commands.{command_row}
use Rattle.packets.specs.Reading.{packet_read}
use Rattle.packets.specs.Answers.{error_answer}
use Rattle.tables.specs.Tables.{starts}
use Rattle.pipe.specs.Input.{sent_bytes, sent_packet}
use Rattle.rules.specs.declared.Pod.{Pod}
use Rattle.rules.specs.State.{fresh_pod, store_in, with_tables, desk_in}
use Rattle.rules.specs.Obey.{shut, checks_of, done_by, obey_of}
use Rattle.rules.specs.Refusals.{done}
use Rattle.rules.specs.Families.{WordCall, word_of, LoneCall, lone_of}
use Rattle.rules.specs.Calls.{power_rows, power_call, roomed, replied, packet_heard, reply_bytes, spoken_bytes, written, answered, packet_rows, packet_call, put_rows, shelved, put_call, word_rows, worded, word_call, lone_rows, reach_of, reached, lone_call, samples_rows, framed, samples_call}
use Rattle.rules.specs.World.{World, Call, power, packet, put, word, lone, samples, room_of, Stepped, stepped, over_tables, over_room, over_store, over_desk, over_sent, over_frames, step, rows_of}
use Rattle.rules.proofs.Stores.{store_same}

-- ---- the effects, by their definitions

abbrev pub powering : World → Stepped
powering w = stepped (gave done) [] fresh_pod (with_tables starts w.lent)

-- an answer of these bytes, with the next pod
abbrev pub telling : List ℕ → List ℕ → Pod → World → Stepped
telling answer room p w = over_room (given (written answer room p w.lent)) w

-- an error answer: an open exchange is closed
abbrev pub erring : ℕ → ℕ → List ℕ → World → Stepped
erring first n room w = telling (error_answer first n) room (shut w.pod) w

-- a packet that is no command, by what it is read as
abbrev pub hearing : Parsed → List ℕ → World → Stepped
hearing r room w = over_room (given (answered (packet_heard r w.lent w.pod) room)) w

abbrev pub obeying : Command → List ℕ → World → Stepped
obeying c room w = over_room (given (answered (replied (command_row c).code (given (done_by c w.lent (shut w.pod)))) room)) w

abbrev pub putting : Store → List ℕ → World → Stepped
putting s b w = over_store s (given (shelved s b (store_in s w.lent) w.pod)) w

abbrev pub wording : WordCall → World → Stepped
wording c w = over_desk (given (worded (word_of c w.pod.initialised w.pod.words (desk_in w.lent)) w.pod)) w

abbrev pub reaching : LoneCall → World → Stepped
reaching c w = over_sent (given (reached (lone_of c (reach_of w.pod)) w.pod)) w

abbrev pub showing : ℕ → List ℕ → World → Stepped
showing k xs w = over_frames (given (framed k xs w.pod)) w

-- ---- the view

pub data Happens (w : World) : Call → Stepped → Type 0 where
  by_rows : (c : Call) (n : ℕ) → First n (rows_of w c) → Happens w c (stepped (refused n) (room_of c) w.pod w.lent)
  by_power : Clear (rows_of w power) → Happens w power (powering w)
  by_empty : (b room : List ℕ) → Clear (rows_of w (packet b room)) → packet_read b ≡ Nothing
      → Happens w (packet b room) (hearing Nothing room w)
  by_damage : (b room : List ℕ) (first n : ℕ) → Clear (rows_of w (packet b room)) → packet_read b ≡ Error first n
      → Happens w (packet b room) (hearing (Error first n) room w)
  by_acknowledgement : (b room : List ℕ) (first : ℕ) (one : Bool) → Clear (rows_of w (packet b room)) → packet_read b ≡ Acknowledgement first one
      → Happens w (packet b room) (hearing (Acknowledgement first one) room w)
  by_check : (b room : List ℕ) (c : Command) (n : ℕ) → Clear (rows_of w (packet b room)) → packet_read b ≡ Asked c
      → First n (checks_of c w.pod) → Happens w (packet b room) (erring (command_row c).code n room w)
  by_command : (b room : List ℕ) (c : Command) → Clear (rows_of w (packet b room)) → packet_read b ≡ Asked c
      → Clear (checks_of c w.pod) → Happens w (packet b room) (obeying c room w)
  by_put : (s : Store) (b : List ℕ) → Clear (rows_of w (put s b)) → Happens w (put s b) (putting s b w)
  by_word : (c : WordCall) → Clear (rows_of w (word c)) → Happens w (word c) (wording c w)
  by_lone : (c : LoneCall) → Clear (rows_of w (lone c)) → Happens w (lone c) (reaching c w)
  by_samples : (k : ℕ) (xs : List ℕ) → Clear (rows_of w (samples k xs)) → Happens w (samples k xs) (showing k xs w)

-- no check looks at the exchange
pub checks-shut : (c : Command) (p : Pod) → checks_of c (shut p) ≡ checks_of c p
unfolding checks_of
checks-shut (Initialise f) p = refl
checks-shut Status p = refl
checks-shut (Update f) p = refl
checks-shut (Write id v) p = refl
checks-shut (Read id) p = refl
checks-shut Priority p = refl
checks-shut Data p = refl
checks-shut Shutdown p = refl

-- a packet that is not refused, by what it is read as
module _ (w : World) (b room : List ℕ) (k : Clear (rows_of w (packet b room))) where
  obeyed : (c : Command) → packet_read b ≡ Asked c → Happens w (packet b room) (hearing (Asked c) room w)
  unfolding packet_heard obey_of answered spoken_bytes reply_bytes
  obeyed c e =
      ran-case (λ o. Happens w (packet b room) (over_room (given (answered (replied (command_row c).code o) room)) w)) (checks_of c (shut w.pod))
      (λ n f. by_check b room c n k e (rw (checks-shut c w.pod) at f))
      (λ q. by_command b room c k e (rw (checks-shut c w.pod) at q))

  heard : (r : Parsed) → packet_read b ≡ r → Happens w (packet b room) (hearing r room w)
  heard Nothing e = by_empty b room k e
  heard (Error first n) e = by_damage b room first n k e
  heard (Acknowledgement first one) e = by_acknowledgement b room first one k e
  heard (Asked c) e = obeyed c e

pub happens : (w : World) (c : Call) → Happens w c (step w c)
unfolding step rows_of power_call packet_call put_call word_call lone_call samples_call sent_bytes sent_packet
happens w power = ran-case (λ o. Happens w power (over_tables o w)) (power_rows w.lent.tables) (by_rows power) by_power
happens w (packet b room) =
    ran-case (λ o. Happens w (packet b room) (over_room o w)) (packet_rows (roomed room w.lent) w.pod) (by_rows (packet b room))
    (λ k. heard w b room k (packet_read b) refl)
happens w (put s b) =
    ran-case (λ o. Happens w (put s b) (over_store s o w)) (put_rows s b (store_in s w.lent) w.pod)
    (λ n f. rw (store_same s w.lent) (by_rows (put s b) n f)) (by_put s b)
happens w (word c) = ran-case (λ o. Happens w (word c) (over_desk o w)) (word_rows c w.lent.tables w.pod) (by_rows (word c)) (by_word c)
happens w (lone c) = ran-case (λ o. Happens w (lone c) (over_sent o w)) (lone_rows c w.pod) (by_rows (lone c)) (by_lone c)
happens w (samples k xs) =
    ran-case (λ o. Happens w (samples k xs) (over_frames o w)) (samples_rows k xs w.pod) (by_rows (samples k xs)) (by_samples k xs)
