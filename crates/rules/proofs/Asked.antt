-- Demand 2: what a receive, a Status and a parameter read are answered is what the history says.
-- Assumes nothing.
use Prim.Native.Nat.{ℕ}
use mathlib.Core.Path.{◌≡◌, refl, sym, ap, ◌∙◌}
use mathlib.Core.Bool.{Bool, true, false, not, ◌&&◌, cond}
use mathlib.Core.List.{List, [], ◌∷◌}
use lib.ListN.{length, replicate}
use lib.Seq.{sets}
use Rattle.rows.proofs.Bool.{split, and_left, and_right}
use Rattle.blocks.specs.declared.Store.{Store}
use Rattle.blocks.specs.declared.Store.TheVariants.{Priority, Ordinary}
use Rattle.blocks.specs.Stores.{capacity_of, oldest_of}
use Rattle.blocks.proofs.Laws.{length_is_count}
use Rattle.packets.specs.declared.Command.TheVariants as command
use Rattle.packets.specs.Commands.{command_row, command_place}
use Rattle.packets.specs.Answers.{error_answer, status_answer, value_answer, data_answer}
use Rattle.params.specs.declared.Params.{Params}
use Rattle.params.specs.Rows.{param_ids, param_row}
use Rattle.params.proofs.Inside.{kept_list}
use Rattle.params.specs.Rules.{is_id, value_at, marked, filter, is_missing, missing_ids, missing_of}
use Rattle.rules.specs.declared.Pod.{Pod}
use Rattle.rules.specs.State.{Lent, ring_of, remaining_of}
use Rattle.rules.specs.Obey.{receives, received, receive_checks, checks_of, done_by, report_of}
use Rattle.rules.specs.Calls.{meant_body}
use Rattle.rules.specs.World.{World, Call, answering, final, powered}
use Rattle.rules.specs.History.{events, fold, mark_by}
use Rattle.rules.specs.Replies.{waiting_from, report_from, status_from, read_answered, received_of, received_from}
use Rattle.rules.specs.Demands.{ReceiveIsHistory, StatusIsHistory, ReadIsWritten}
use Rattle.rules.proofs.Replied.{command_answer, command-told}
use Rattle.rules.proofs.Holds.{awake_is, fields_are}
use Rattle.rules.proofs.Inside.{pod_in}
use Rattle.rules.proofs.Sound.{powered_sound, final_sound}
use Rattle.rules.proofs.Written.{value_is, mark_is}
use Rattle.rules.proofs.Blocks.{waiting_in, blocks_are_history}

-- as many blocks wait as the state says
counted : (s : Store) (w : World) → length (waiting_in s w) ≡ (ring_of s w.pod).waiting
counted s w = length_is_count (capacity_of s) (ring_of s w.pod) _

-- ---- a receive

receive_checks_lem : (s : Store) (p : Pod) → checks_of (receives s) p ≡ receive_checks s p
unfolding checks_of
receive_checks_lem Priority p = refl
receive_checks_lem Ordinary p = refl

receive_done : (s : Store) (l : Lent) (p : Pod) → done_by (receives s) l p ≡ received s l p
unfolding done_by
receive_done Priority l p = refl
receive_done Ordinary l p = refl

receive_shown : (s : Store) (w : World)
    → command_answer (receives s) w
    ≡ received_of (command_row (receives s)).code w.pod.initialised (waiting_in s w) (remaining_of s w.pod.fields)
unfolding received_of meant_body data_answer oldest_of
receive_shown s w = rw (receive_checks_lem s w.pod, receive_done s w.lent _, counted s w)

pub receive_is_history : ReceiveIsHistory
unfolding received_from
receive_is_history s l cs b room asks ok =
    let w = final (powered l) cs in
    command-told w b room (receives s) asks ok
    ∙ ap (answering room) {y = received_from s (events (powered l) cs)} (receive_shown s w ∙ rw (blocks_are_history s l cs, awake_is l cs, fields_are l cs))

-- ---- Status

-- a list of ids alone
abbrev all_ids : List ℕ → Bool
all_ids [] = true
all_ids (id ∷ l) = is_id id && all_ids l

-- two tests that agree on ids pass the same of them
same_tests : (t u : ℕ → Bool) → ((id : ℕ) → is_id id ≡ true → t id ≡ u id) → (l : List ℕ) → all_ids l ≡ true → filter t l ≡ filter u l
unfolding filter
same_tests t u h [] e = refl
same_tests t u h (id ∷ l) e = rw (h id (and_left (is_id id) (all_ids l) e), same_tests t u h l (and_right (is_id id) (all_ids l) e))

missing_are : (q : Params) (u : ℕ → Bool) → ((id : ℕ) → is_id id ≡ true → marked q id ≡ u id)
    → missing_of q ≡ sets (replicate 8 0) 0 (filter (λ id. (param_row id).asked && not (u id)) param_ids)
unfolding missing_of missing_ids is_id
missing_are q u h =
    ap (sets (replicate 8 0) 0) (same_tests (is_missing q) (λ id. (param_row id).asked && not (u id)) (λ id e. ap (λ m. (param_row id).asked && not m) (h id e)) param_ids refl)

counts_are : (s : Store) (l : Lent) (cs : List Call) → (ring_of s (final (powered l) cs).pod).waiting ≡ length (waiting_from s (events (powered l) cs))
counts_are s l cs = sym (counted s (final (powered l) cs)) ∙ ap length (blocks_are_history s l cs)

pub report_is : (l : Lent) (cs : List Call) → report_of (final (powered l) cs).pod ≡ report_from (events (powered l) cs)
unfolding report_of report_from
report_is l cs =
    let q = (final (powered l) cs).pod.params in
    let ids =
    kept_list q (pod_in (final (powered l) cs).pod (final_sound (powered l) cs (powered_sound l))).params
    ∙ missing_are q (λ id. fold (mark_by id) false (events (powered l) cs)) (λ id k. mark_is id k l cs) in
    λ i.
    record {
      mode = (fields_are l cs i).mode;
      flags = (fields_are l cs i).flags;
      priority = counts_are Priority l cs i;
      ordinary = counts_are Ordinary l cs i;
      ids = ids i;
    }

status_shown_lem : (w : World)
    → command_answer command.Status w
    ≡ cond w.pod.initialised (status_answer 0x91 (report_of w.pod)) (error_answer 0x91 0x38)
unfolding checks_of done_by meant_body command_row command_place status_answer report_of
status_shown_lem w = split w.pod.initialised (λ a. rw a) (λ a. rw a)

pub status_is_history : StatusIsHistory
unfolding status_from
status_is_history l cs b room asks ok =
    let w = final (powered l) cs in
    command-told w b room command.Status asks ok
    ∙ ap (answering room) {y = status_from (events (powered l) cs)} (status_shown_lem w ∙ rw (awake_is l cs, report_is l cs))

-- ---- a parameter read

read-shown : (id : ℕ) (w : World)
    → command_answer (command.Read id) w
    ≡ cond (not w.pod.initialised) (error_answer 0x94 0x38)
    (cond (is_id id) (value_answer 0x94 id (value_at w.pod.params id)) (error_answer 0x94 0x39))
unfolding checks_of done_by meant_body command_row command_place value_answer
read-shown id w = split (is_id id) (λ i. rw i) (λ i. rw i)

pub read_is_written : ReadIsWritten
unfolding read_answered
read_is_written l cs b room id asks ok =
    let w = final (powered l) cs in
    command-told w b room (command.Read id) asks ok
    ∙ ap (answering room) {y = read_answered id (events (powered l) cs)} (read-shown id w ∙ rw (awake_is l cs) (split (is_id id) (λ i. rw (i, value_is id i l cs)) (λ i. rw i)))
