-- The sentences of request No. 1, each a statement.
-- Assumes nothing.
use Rattle.std.specs.Prelude.{ℕ, suc, ◌^◌, ◌<◌, ◌≤◌, ◌≡◌, Bool, true, false, cond, List, [], ◌∷◌, ◌++◌, ◌↔◌, ◌⊎◌, ℤ, length, take, drop, get_or, set, Some, None, Result}
use Rattle.std.specs.Int.Signed.{mag}
use Rattle.rows.specs.Rows.{Said, refused, gave}
use Rattle.packets.specs.declared.Command.{Command}
use Rattle.packets.specs.declared.Parsed.TheVariants.{Error, Acknowledgement, Asked}
use Rattle.packets.specs.Reading.{first, packet_read}
use Rattle.packets.specs.declared.Report.{Report}
use Rattle.packets.specs.Commands.{is_code, command_row}
use Rattle.packets.specs.Answers.{command_bytes, answer_of, error_answer, done_answer, value_answer, data_answer}
use Rattle.airframe.specs.declared.Form.{Form}
use Rattle.airframe.specs.declared.Form.TheVariants.{Taken, Failed}
use Rattle.airframe.specs.declared.Refusal.{Refusal}
use Rattle.airframe.specs.declared.Meaning.{Meaning}
use Rattle.airframe.specs.declared.Left.{Left}
use Rattle.airframe.specs.declared.Sending.TheVariants.{Over, Awaiting}
use Rattle.airframe.specs.declared.Step.{Step}
use Rattle.airframe.specs.declared.Step.TheVariants.{Idle, Ended, Again, Lost}
use Rattle.airframe.specs.declared.Heard.{Heard}
use Rattle.airframe.specs.Building.{command_fits, command_wide, first_fits, acknowledgement_bytes, command_built, acknowledgement_built, built_said}
use Rattle.airframe.specs.Reading.{Meant, done, failed, status, value, block, answer_right, read_as, status_shown, meant_bytes, CanMean, meaning_said}
use Rattle.airframe.specs.Sending.{Came, silence, answer, sent, unanswered, outcome, heard_of, steps_of, heard_said}

-- ---- building

-- "A built command must be read by the pod as the same fields"
abbrev pub BuiltIsRead : Type 0
BuiltIsRead =
    (c : Command) (room : List ℕ) (n : ℕ) → command_wide c ≡ true → (command_built c room).said ≡ gave n
    → packet_read (take n (command_built c room).lent) ≡ Asked c

-- "every command and acknowledgement": each of the two forms is read as that form, with that first byte
pub record AcknowledgedIsRead : Type 0 where
  pub as_taken : (f : ℕ) (room : List ℕ) (n : ℕ) → (acknowledgement_built f Taken room).said ≡ gave n
      → packet_read (take n (acknowledgement_built f Taken room).lent) ≡ Acknowledgement f true
  pub as_failed : (f e : ℕ) (room : List ℕ) (n : ℕ) → (acknowledgement_built f (Failed e) room).said ≡ gave n
      → packet_read (take n (acknowledgement_built f (Failed e) room).lent) ≡ Acknowledgement f false

-- "An acknowledgement's first byte outside 0x90 to 0x9F is 20": exactly those that the pod would not take
pub record AcknowledgedExactly : Type 0 where
  pub when_taken : (f : ℕ) → (first_fits f ≡ true) ↔ (packet_read (acknowledgement_bytes f Taken) ≡ Acknowledgement f true)
  pub when_failed : (f e : ℕ) → (first_fits f ≡ true) ↔ (packet_read (acknowledgement_bytes f (Failed e)) ≡ Acknowledgement f false)

-- no two commands have the same bytes
abbrev pub CommandsApart : Type 0
CommandsApart =
    (c d : Command) → command_wide c ≡ true → command_wide d ≡ true → command_fits c ≡ true → command_fits d ≡ true
    → command_bytes c ≡ command_bytes d → c ≡ d

-- and no two acknowledgements: "first byte, and the 0x01 form or the 0x09 form with its error byte"
abbrev pub AcknowledgementsApart : Type 0
AcknowledgementsApart = (f g : ℕ) (p q : Form) → acknowledgement_bytes f p ≡ acknowledgement_bytes g q → (f ≡ g) × (p ≡ q)

-- "Refusals, lowest first: a field outside document 01's bounds (20 ..) .. a command room under 25 bytes (24); none changes anything";
-- else the bytes stand at the room's start: "The rest of a larger room is kept."
pub record Refuses (inside : Bool) (bytes room : List ℕ) (said : Said ℕ) (left : List ℕ) : Type 0 where
  pub outside : (said ≡ refused 20) ↔ (inside ≡ false)
  pub short : (said ≡ refused 24) ↔ ((inside ≡ true) × (length room < 25))
  pub kept : (n : ℕ) → said ≡ refused n → left ≡ room
  pub given : inside ≡ true → 25 ≤ length room → (said ≡ gave (length bytes)) × (left ≡ bytes ++ drop (length bytes) room)

abbrev pub BuildingRefuses : Type 0
BuildingRefuses =
    (c : Command) (room : List ℕ)
    → Refuses (command_fits c) (command_bytes c) room (command_built c room).said (command_built c room).lent

abbrev pub AcknowledgingRefuses : Type 0
AcknowledgingRefuses =
    (f : ℕ) (form : Form) (room : List ℕ)
    → Refuses (first_fits f) (acknowledgement_bytes f form) room (acknowledgement_built f form room).said (acknowledgement_built f form room).lent

-- ---- reading

-- a list of bytes
abbrev pub AllBytes : List ℕ → Type 0
AllBytes a = (k : ℕ) → get_or a k 0 < 256

-- "reads every answer": each as it stands, whatever its error byte, its id, its mode or its request byte; `mag` is n both for n and
-- for -(n + 1), so a value is any of 32 bits
pub record AnswersRead : Type 0 where
  pub an_error : (c : Command) (e : ℕ) → read_as (command_row c).code (error_answer (command_row c).code e) ≡ gave (failed e)
  pub a-success : (c : Command) → (command_row c).kind ≡ 1 → read_as (command_row c).code (done_answer (command_row c).code) ≡ gave done
  pub a_status : (r : Report) (request : ℕ) → r.flags < 2 ^ 16 → r.priority < 2 ^ 16 → r.ordinary < 2 ^ 32 → length r.ids ≡ 8
      → read_as 0x91 (answer_of 0x91 0x01 (status_shown r request)) ≡ gave (status r request)
  pub a_value_lem : (id : ℕ) (v : ℤ) → mag v < 2 ^ 31 → read_as 0x94 (value_answer 0x94 id v) ≡ gave (value id v)
  pub a_block : (b : List ℕ) → length b ≡ 256
      → (read_as 0x95 (data_answer 0x95 b) ≡ gave (block b)) × (read_as 0x96 (data_answer 0x96 b) ≡ gave (block b))

-- "It is wrong (23) exactly when the CRC, the first byte, the second byte, the length .. or the 0x7E .. is wrong": bytes that are read
-- as a meaning are those of the answer that has it, to a command whose answers can; with `AnswersRead` the two are inverses
abbrev pub ReadExactly : Type 0
ReadExactly =
    (code : ℕ) (a : List ℕ) (m : Meant) → AllBytes a → read_as code a ≡ gave m
    → (is_code code ≡ true) × CanMean code m × (a ≡ meant_bytes code m)

-- ---- damage: one byte replaced by another one, the length kept

-- a list with another byte at a place
pub record Replaced (a b : List ℕ) : Type 0 where
  pub place : ℕ
  pub byte : ℕ
  pub within : place < length a
  pub small : byte < 256
  pub other : byte ≡ get_or a place 0 → ⊥
  pub rest : b ≡ set a place byte

-- an answer so damaged is wrong, whichever byte it is
abbrev pub DamagedAnswer : Type 0
DamagedAnswer =
    (code : ℕ) (a b : List ℕ) → AllBytes a → answer_right code a ≡ true → Replaced a b → read_as code b ≡ refused 23

-- and a command so damaged is answered 0x01, and never obeyed
abbrev pub DamagedCommand : Type 0
DamagedCommand =
    (c : Command) (b : List ℕ) → command_fits c ≡ true → Replaced (command_bytes c) b → packet_read b ≡ Error (first b) 0x01

-- so is an acknowledgement, and never taken
abbrev pub DamagedAcknowledgement : Type 0
DamagedAcknowledgement =
    (f : ℕ) (form : Form) (b : List ℕ) → first_fits f ≡ true → ((e : ℕ) → form ≡ Failed e → e < 256)
    → Replaced (acknowledgement_bytes f form) b → packet_read b ≡ Error (first b) 0x01

-- ---- sending

-- "After no reply, or an answer with error 0x01 .. An answer .. wrong for its command counts as no reply": those, and no other
pub record AsNoReply : Type 0 where
  pub none_came : (code : ℕ) → unanswered code silence ≡ true
  pub some_came : (code : ℕ) (a : List ℕ)
      → (unanswered code (answer a) ≡ true) ↔ ((read_as code a ≡ refused 23) ⊎ (read_as code a ≡ gave (failed 0x01)))

-- how often a step is said
abbrev pub is_again : Step → Bool
is_again Idle = false
is_again Ended = false
is_again Again = true
is_again Lost = false

unfoldable pub again_in : List Step → ℕ
again_in [] = 0
again_in (s ∷ ss) = cond (is_again s) (suc (again_in ss)) (again_in ss)

-- how many replies went unanswered before the first that did not
unfoldable pub unanswered_run : ℕ → List Came → ℕ
unanswered_run code [] = 0
unanswered_run code (x ∷ xs) = cond (unanswered code x) (suc (unanswered_run code xs)) 0

-- "it sends again up to three times"
abbrev pub AgainThrice : Type 0
AgainThrice = (code : ℕ) (xs : List Came) → again_in (steps_of (sent code) xs) ≤ 3

-- "and then reports the pod lost": exactly at the fourth that went unanswered
abbrev pub LostAtFourth : Type 0
LostAtFourth =
    (code : ℕ) (xs : List Came) (k : ℕ)
    → (get_or (steps_of (sent code) xs) k Idle ≡ Lost) ↔ ((k ≡ 3) × (4 ≤ unanswered_run code xs))

-- and otherwise again after each unanswered one, an end at the first that is answered, and nothing on its way from then on
abbrev pub AgainWhile : Type 0
AgainWhile =
    (code : ℕ) (xs : List Came) (k : ℕ)
    → (get_or (steps_of (sent code) xs) k Idle ≡ Again) ↔ ((k < 3) × (k < unanswered_run code xs))

abbrev pub EndedOnce : Type 0
EndedOnce =
    (code : ℕ) (xs : List Came) (k : ℕ)
    → (get_or (steps_of (sent code) xs) k Idle ≡ Ended) ↔ ((k ≡ unanswered_run code xs) × (k < 4) × (k < length xs))

-- "23 is given exactly when its row holds, on the fourth send too"; "After an answer or lost a reply is not read: it says that
-- nothing is on its way, and changes nothing."
pub record ReadBeside : Type 0 where
  pub an_answer : (code : ℕ) (left : Left) (a : List ℕ) → (heard_of (Awaiting code left) (answer a)).meant ≡ Some (read_as code a)
  pub no_answer : (code : ℕ) (left : Left) → (heard_of (Awaiting code left) silence).meant ≡ None
  pub not_awaited : (x : Came) → heard_of Over x ≡ outcome Idle None Over

-- ---- for each public promise: two outcomes that it allows are equal

abbrev pub BuildDecided : Type 0
BuildDecided = (r s : Result ℕ Refusal) → built_said r ≡ built_said s → r ≡ s

abbrev pub ReadDecided : Type 0
ReadDecided = (r s : Result Meaning Refusal) (a : List ℕ) → meaning_said r a ≡ meaning_said s a → r ≡ s

abbrev pub HeardDecided : Type 0
HeardDecided = (r s : Heard) (a : List ℕ) → heard_said r a ≡ heard_said s a → r ≡ s

-- ---- all of them

pub record Airframe : Type 0 where
  pub built_is_read : BuiltIsRead
  pub acknowledged_is_read : AcknowledgedIsRead
  pub acknowledged_exactly : AcknowledgedExactly
  pub commands_apart : CommandsApart
  pub acknowledgements_apart : AcknowledgementsApart
  pub building_refuses : BuildingRefuses
  pub acknowledging_refuses : AcknowledgingRefuses
  pub answers_read : AnswersRead
  pub read_exactly : ReadExactly
  pub damaged-answer : DamagedAnswer
  pub damaged-command : DamagedCommand
  pub damaged-acknowledgement : DamagedAcknowledgement
  pub as_no_reply_lem : AsNoReply
  pub again_thrice : AgainThrice
  pub lost_at_fourth : LostAtFourth
  pub again_while : AgainWhile
  pub ended_once : EndedOnce
  pub read-beside : ReadBeside
  pub build_decided : BuildDecided
  pub read_decided : ReadDecided
  pub heard_decided : HeardDecided
