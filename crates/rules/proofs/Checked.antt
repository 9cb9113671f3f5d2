-- Demand 2: "Checks in this order": what a packet that is not refused is answered, whole.
-- Assumes nothing.
use Prim.Native.Nat.{ℕ, ◌≤◌}
use native.Mathlib.Nat.{zero-add}
use native.Mathlib.Omega.{arith}
use mathlib.Core.Path.{◌≡◌, refl, ap, ◌∙◌}
use mathlib.Core.Bool.{true, false, not, ◌&&◌, ◌||◌, cond, and-true}
use mathlib.Core.List.{List, [], ◌∷◌, ◌++◌}
use lib.Dec.{eqb, ltb}
use lib.ListN.{length, get_or, take, drop}
use lib.Seq.{sets, sets-eq, drop_at}
use borrow.Author.Tests.{eqb-true, eqb-false}
use Rattle.rows.specs.Rows.{Clear, past, gave}
use Rattle.rows.proofs.Bool.{never, and_left, and_right, and-false, not-false, not-true}
use Rattle.rows.proofs.Laws.{clear_head, clear_rest, never_both, first_one}
use Rattle.numbers.proofs.Stores.{sets_taken}
use Rattle.blocks.specs.declared.Store.{Store}
use Rattle.blocks.specs.declared.Store.TheVariants as store
use Rattle.blocks.specs.Stores.{capacity_of, store_sized, oldest_of}
use Rattle.blocks.proofs.Laws.{oldest_whole}
use Rattle.packets.specs.declared.Command.{Command}
use Rattle.packets.specs.declared.Command.TheVariants.{Initialise, Status, Update, Write, Read, Priority, Data, Shutdown}
use Rattle.packets.specs.declared.Parsed.TheVariants.{Error, Asked}
use Rattle.packets.specs.Commands.{command_row, command_place}
use Rattle.packets.specs.Reading.{packet_read, crc_right}
use Rattle.packets.specs.Answers.{with_crc, answer_of, error_answer, done_answer, status_answer, value_answer, data_answer}
use Rattle.packets.proofs.Laws.{answer_right_lem, done-length, status_length, value_length, data_length}
use Rattle.params.proofs.Inside.{kept-length}
use Rattle.tables.specs.Tables.{tables_sized}
use Rattle.rules.specs.declared.Pod.{Pod}
use Rattle.rules.specs.State.{Lent, store_in, ring_of, fresh_pod}
use Rattle.rules.specs.Obey.{initialised_pod, shut, checks_of, receive_checks, done_by, received, exchange_code, report_of}
use Rattle.rules.specs.Refusals.{bytes, all_row}
use Rattle.rules.specs.Calls.{meant_body, reply_bytes, spoken_bytes, answered, packet_heard}
use Rattle.rules.specs.World.{World, with_pod, packet, answering, Stepped, rows_of, is_refused}
use Rattle.rules.specs.History.{succeeded, errored}
use Rattle.rules.specs.Checks.{Succeeds, Answers, damaged}
use Rattle.rules.specs.Demands.{PacketAnswered, OpensExactly, Damage, DamageAnswered, ErrorUnchanged}
use Rattle.rules.proofs.Happens.{Happens, by_rows, by_empty, by_damage, by_acknowledgement, by_check, by_command, checks-shut, obeying, happens}
use Rattle.rules.proofs.Succeeded.{error_fails, one_errs_not, room_at}
use Rattle.rules.proofs.Eventful.{sound_at, command_succeeds}
use Rattle.rules.proofs.Inside.{PodIn, pod_in, ring_in, in_shut}
use Rattle.rules.proofs.Answered.{answered_clear}
use Rattle.rules.proofs.Replied.{shown_by}

-- ---- an answer in its room

-- the rest of the room is kept
module _ (l room : List ℕ) (n : ℕ) (long : length l ≡ n) (fits : length l ≤ length room) where
  in_room : sets room 0 l ≡ l ++ drop (length l) room
  in_room = sets-eq l room 0 (omega arith) ∙ ap (λ (k : ℕ). l ++ drop k room) (zero-add (length l))

  rest-kept : drop n (sets room 0 l) ≡ drop n room
  rest-kept = rw in_room (drop_at l (drop (length l) room) n long ∙ ap (λ (k : ℕ). drop k room) long)

-- and shows its first two bytes
first_two : (room : List ℕ) (first second : ℕ) (body : List ℕ) → length (answer_of first second body) ≤ length room
    → take 2 (sets room 0 (answer_of first second body)) ≡ first ∷ second ∷ []
unfolding answer_of with_crc
first_two room first second body h = rw (sets-eq (answer_of first second body) room 0 (omega arith))

pub short_answers : (c : Command) → (command_row c).answer ≤ 260
unfolding command_row command_place
short_answers (Initialise f) = omega arith
short_answers Status = omega arith
short_answers (Update f) = omega arith
short_answers (Write id v) = omega arith
short_answers (Read id) = omega arith
short_answers Priority = omega arith
short_answers Data = omega arith
short_answers Shutdown = omega arith

-- ---- the body of a command that passes its checks

-- of a type 1 command
done-shown : (c : Command) (l : Lent) (p : Pod) → (command_row c).kind ≡ 1 → shown_by c l p ≡ 0x7E ∷ []
unfolding command_row command_place done_by meant_body
done-shown (Initialise f) l p k = refl
done-shown Status l p k = absurd (omega arith)
done-shown (Update f) l p k = refl
done-shown (Write id v) l p k = refl
done-shown (Read id) l p k = absurd (omega arith)
done-shown Priority l p k = absurd (omega arith)
done-shown Data l p k = absurd (omega arith)
done-shown Shutdown l p k = refl

module _ (l : Lent) (p : Pod) (inside : PodIn p) (sized : (s : Store) → store_sized s (store_in s l) ≡ true) where
  -- the oldest block of a store, where one waits
  pub oldest_long : (s : Store) → Clear (receive_checks s p) → length (oldest_of (capacity_of s) (ring_of s p) (store_in s l)) ≡ 256
  unfolding store_sized
  oldest_long s (past on (past some k)) =
      let waits = eqb-false (ring_of s p).waiting 0 some in
      oldest_whole (capacity_of s) (ring_of s p) (store_in s l) (ring_in inside s) (eqb-true _ _ (sized s)) (omega arith)

  block_long : (s : Store) (first : ℕ) → Clear (receive_checks s p)
      → length (answer_of first 0x01 (meant_body (received s l p).said (received s l p).pod l)) ≡ 260
  unfolding meant_body data_answer
  block_long s first q = data_length first _ (oldest_long s q)

  -- the answer has as many bytes as the packet table says
  pub answer_long : (c : Command) → Clear (checks_of c p) → length (answer_of (command_row c).code 0x01 (shown_by c l p)) ≡ (command_row c).answer
  unfolding command_row command_place checks_of done_by meant_body report_of done_answer status_answer value_answer
  answer_long (Initialise f) q = done-length 0x90
  answer_long Status q = status_length 0x91 (report_of p) (kept-length p.params inside.params)
  answer_long (Update f) q = done-length 0x92
  answer_long (Write id v) q = done-length 0x93
  answer_long (Read id) q = value_length 0x94 id _
  answer_long Priority q = block_long store.Priority 0x95 q
  answer_long Data q = block_long store.Ordinary 0x96 q
  answer_long Shutdown q = done-length 0x9F

-- ---- the answer to a packet

-- where all that is lent is of its size, each store is
pub sized_in : (l : Lent) → (all_row l).holds ≡ false → (s : Store) → store_sized s (store_in s l) ≡ true
sized_in l h s =
    let x = store_sized store.Priority l.priority in
    let y = store_sized store.Ordinary l.ordinary in
    let z = tables_sized l.tables in
    let all = not-false h in
    on s (and_left x (y && z) all) (and_left y z (and_right x (y && z) all))
  where
    on : (s : Store) → store_sized store.Priority l.priority ≡ true → store_sized store.Ordinary l.ordinary ≡ true
        → store_sized s (store_in s l) ≡ true
    on store.Priority p o = p
    on store.Ordinary p o = o

-- and so where no row of a packet holds
pub sized_at : (w : World) (b room : List ℕ) → Clear (rows_of w (packet b room)) → (all_row w.lent).holds ≡ false
unfolding rows_of
sized_at w b room k = clear_head (clear_rest k)

module _ (w : World) (b room : List ℕ) (k : Clear (rows_of w (packet b room))) where
  command_answers : (c : Command) → Clear (checks_of c w.pod) → Succeeds c room (obeying c room w).told
  unfolding answered spoken_bytes reply_bytes
  command_answers c q =
      let p = shut w.pod in
      let body = shown_by c w.lent p in
      let l = answer_of (command_row c).code 0x01 body in
      let n = (command_row c).answer in
      let long : length l ≡ n = answer_long w.lent p (in_shut (pod_in w.pod (sound_at w b room k))) (sized_in w.lent (sized_at w b room k)) c (rw (← checks-shut c w.pod) at q) in
      let fits : length l ≤ length room = omega (arith, room_at w b room k, short_answers c, long) in
      record {
        count = ap (λ (m : ℕ). gave (bytes m)) long;
        start = first_two room (command_row c).code 0x01 body fits;
        crc = ap crc_right (sets_taken l room n long fits) ∙ answer_right_lem (command_row c).code 0x01 body;
        rest = rest-kept l room n long fits;
        whole = λ one. ap (λ (m : List ℕ). answering room (answer_of (command_row c).code 0x01 m)) (done-shown c w.lent p one);
      }

pub packet_answered : PacketAnswered
unfolding packet_heard answered spoken_bytes reply_bytes
packet_answered w b room h = on (happens w (packet b room)) (answered_clear w (packet b room) h)
  where
    on : {s : Stepped} → Happens w (packet b room) s → Clear (rows_of w (packet b room)) → Answers (packet_read b) w.pod room s.told
    on (by_rows c n f) k = never_both f k
    on (by_empty b room k e) q = rw e refl
    on (by_damage b room first n k e) q = rw e refl
    on (by_acknowledgement b room first one k e) q = rw e refl
    on (by_check b room c n k e f) q =
        rw e (record { fails = λ m g. rw (first_one g f) refl; succeeds = λ g. never_both f g })
    on (by_command b room c k e q) r =
        rw e (record { fails = λ n f. never_both f q; succeeds = λ g. command_answers w b room k c q })

-- ---- what a packet leaves

-- the exchange that a command opens, and no other command does
opened_by : (c : Command) (l : Lent) (p : Pod)
    → exchange_code (done_by c l (shut p)).pod.exchange ≡ cond (eqb (command_row c).kind 2) (command_row c).code 0
unfolding done_by initialised_pod fresh_pod command_row command_place
opened_by (Initialise f) l p = refl
opened_by Status l p = refl
opened_by (Update f) l p = refl
opened_by (Write id v) l p = refl
opened_by (Read id) l p = refl
opened_by Priority l p = refl
opened_by Data l p = refl
opened_by Shutdown l p = refl

-- "A type 2 answer without error opens an exchange"
pub opens_exactly : OpensExactly
unfolding answered
opens_exactly w b room c asked h = on (happens w (packet b room)) (answered_clear w (packet b room) h) asked
  where
    Opens : Stepped → Type 0
    Opens s = exchange_code s.world.pod.exchange ≡ cond (eqb (command_row c).kind 2 && succeeded s.told) (command_row c).code 0

    on : {s : Stepped} → Happens w (packet b room) s → Clear (rows_of w (packet b room)) → packet_read b ≡ Asked c → Opens s
    on (by_rows d n f) k a = never_both f k
    on (by_empty b room k e) q a = cc
    on (by_damage b room first n k e) q a = cc
    on (by_acknowledgement b room first one k e) q a = cc
    on (by_check b room d n k e f) q a =
        rw (error_fails room (command_row d).code n (room_at w b room k), and-false (eqb (command_row c).kind 2))
    on (by_command b room d k e q) r a =
        let same : d ≡ c = cc in
        rw (← same, command_succeeds w room (room_at w b room k) d, and-true (eqb (command_row d).kind 2)) (opened_by d w.lent w.pod)

-- a damaged packet is read as error 0x01, whatever else stands in it
damaged-read : (b : List ℕ) → damaged b ≡ true → packet_read b ≡ Error (get_or b 0 0) 0x01
unfolding packet_read
damaged-read b h =
    let some = not (eqb (length b) 0) in
    let bad = ltb (length b) 4 || not (crc_right b) in
    rw (not-true {b = eqb (length b) 0} (and_left some bad h), and_right some bad h)

-- "A damaged packet closes at most an open exchange."
pub damage : Damage
unfolding packet_heard answered spoken_bytes reply_bytes
damage w b room h = on (happens w (packet b room)) (damaged-read b h)
  where
    on : {s : Stepped} → Happens w (packet b room) s → packet_read b ≡ Error (get_or b 0 0) 0x01
        → s.world ≡ cond (is_refused s.told.said) w (with_pod (shut w.pod) w)
    on (by_rows c n f) r = refl
    on (by_empty b room k e) r = cc
    on (by_damage b room first n k e) r = refl
    on (by_acknowledgement b room first one k e) r = cc
    on (by_check b room c n k e f) r = cc
    on (by_command b room c k e q) r = cc

-- and is answered so
pub damage_answered : DamageAnswered
unfolding packet_heard answered spoken_bytes reply_bytes
damage_answered w b room h a = on (happens w (packet b room)) (damaged-read b h) (answered_clear w (packet b room) a)
  where
    on : {s : Stepped} → Happens w (packet b room) s → packet_read b ≡ Error (get_or b 0 0) 0x01 → Clear (rows_of w (packet b room))
        → s.told ≡ answering room (error_answer (get_or b 0 0) 0x01)
    on (by_rows c n f) r k = never_both f k
    on (by_empty b room k e) r q = cc
    on (by_damage b room first n k e) r q = cc
    on (by_acknowledgement b room first one k e) r q = cc
    on (by_check b room c n k e f) r q = cc
    on (by_command b room c k e q) r p = cc

-- a packet that gets an error answer changes nothing but an open exchange
pub error_unchanged : ErrorUnchanged
unfolding errored answered spoken_bytes reply_bytes packet_heard
error_unchanged w b room h = on (happens w (packet b room)) h
  where
    on : {s : Stepped} → Happens w (packet b room) s → errored s.told ≡ true → s.world ≡ with_pod (shut w.pod) w
    on (by_rows c n f) h = never h refl
    on (by_empty b room k e) h = never h refl
    on (by_damage b room first n k e) h = refl
    on (by_acknowledgement b room first one k e) h = never h refl
    on (by_check b room c n k e f) h = refl
    on (by_command b room c k e q) h = never h (one_errs_not room (command_row c).code _ (room_at w b room k))
