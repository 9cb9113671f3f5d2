-- What callers may want to know of packets and answers, without opening a definition.
use Prim.Native.Nat.{ℕ, ◌+◌, ◌≤◌}
use native.Mathlib.Omega.{arith}
use mathlib.Core.Path.{◌≡◌, refl, sym, ap, ◌∙◌}
use mathlib.Core.List.{List, [], ◌∷◌}
use mathlib.Core.Logic.{◌⊎◌, ⊎_elim}
use mathlib.Core.Bool.{true, and-eq-true_iff}
use borrow.Author.Tests.{leb-true, le-leb, eqb-true}
use lib.Dec.{leb, eqb}
use lib.IntN.{ℤ, pos, negsuc}
use lib.ListN.{length, get_or}
use Rattle.packets.specs.declared.Fields.{Fields}
use Rattle.packets.specs.declared.Report.{Report}
use Rattle.packets.specs.declared.Command.{Command}
use Rattle.packets.specs.declared.Command.TheVariants.{Initialise, Status, Update, Write, Read, Priority, Data, Shutdown}
use Rattle.packets.specs.declared.Parsed.{Parsed}
use Rattle.packets.specs.declared.Parsed.TheVariants.{Nothing, Error, Asked}
use Rattle.numbers.specs.Numbers.{high_first}
use Rattle.numbers.specs.Layout.{laid_out}
use Rattle.packets.specs.Commands.{fields_bounded, find_in, listed_in, code_row, is_code, command_place, command_row, parsed_said}
use Rattle.packets.specs.Reading.{first, crc_right, packet_read}
use Rattle.packets.specs.Answers.{with_crc, answer_of, error_answer, done_answer, status_body, status_answer, value_body, value_answer, data_answer, field_bytes, body_of, command_bytes}
use Rattle.rows.proofs.Bool.{split}
use Rattle.packets.proofs.Checks.{empty}
use Rattle.packets.proofs.Room.{answer-length}
use Rattle.packets.proofs.Bodies.{status_body-length, value_body-length}
use Rattle.packets.proofs.First.{named, not_empty}
use Rattle.packets.proofs.Said.{one_to_one}
use Rattle.packets.proofs.Sent.{closed_right}

-- ---- what `read` promises

-- it decides the result: whatever says the same is the same
pub read_decided : (r : Parsed) (p : List ℕ) → parsed_said r ≡ parsed_said (packet_read p) → r ≡ packet_read p
read_decided r p = one_to_one r (packet_read p)

-- an empty packet is read as nothing
pub nothing : packet_read [] ≡ Nothing
nothing = empty [] refl

taken-first : (p : List ℕ) (x : Parsed) → packet_read p ≡ x → (x ≡ Nothing → ⊥) → get_or (parsed_said x) 1 (negsuc 0) ≡ pos (first p)
taken-first p x e n =
    rw e at (
    named p
    (split (eqb (length p) 0) (λ z. absurd (n (sym e ∙ empty p (eqb-true (length p) 0 z)))) (λ z. not_empty p z))
    )

-- an error has the packet's own first byte
pub error_first : (p : List ℕ) (f n : ℕ) → packet_read p ≡ Error f n → f ≡ first p
unfolding parsed_said
error_first p f n e = let x = taken-first p (Error f n) e (λ z. let y : ◌≡◌ {A = ℕ} 0 1 = cc in omega arith) in cc

-- and a command's packet begins with its code
pub asked_first : (p : List ℕ) (c : Command) → packet_read p ≡ Asked c → (command_row c).code ≡ first p
unfolding parsed_said
asked_first p c e = let x = taken-first p (Asked c) e (λ z. let y : ◌≡◌ {A = ℕ} 0 1 = cc in omega arith) in cc

-- ---- answers

-- an answer has four bytes and its body
pub length_of_answer : (f s : ℕ) (body : List ℕ) → length (answer_of f s body) ≡ 4 + length body
length_of_answer = answer-length

-- so the five have as many as document 01 says
pub error_length : (f n : ℕ) → length (error_answer f n) ≡ 5
unfolding error_answer
error_length f n = answer-length f 0x09 (n ∷ [])

pub done-length : (f : ℕ) → length (done_answer f) ≡ 5
unfolding done_answer
done-length f = answer-length f 0x01 (0x7E ∷ [])

pub status_length : (f : ℕ) (r : Report) → length r.ids ≡ 8 → length (status_answer f r) ≡ 22
unfolding status_answer
status_length f r e = answer-length f 0x01 (status_body r) ∙ ap (λ (n : ℕ). 4 + n) (status_body-length r e)

pub value_length : (f id : ℕ) (v : ℤ) → length (value_answer f id v) ≡ 9
unfolding value_answer
value_length f id v = answer-length f 0x01 (value_body id v) ∙ ap (λ (n : ℕ). 4 + n) (value_body-length id v)

pub data_length : (f : ℕ) (block : List ℕ) → length block ≡ 256 → length (data_answer f block) ≡ 260
unfolding data_answer
data_length f block e = answer-length f 0x01 block ∙ ap (λ (n : ℕ). 4 + n) e

-- and those lengths stand in the packet table: of a type 1 command that is done, and of each type 2 command
pub done-listed : (c : Command) → (command_row c).kind ≡ 1 → (f : ℕ) → length (done_answer f) ≡ (command_row c).answer
unfolding command_row command_place
done-listed (Initialise g) k f = done-length f
done-listed (Update g) k f = done-length f
done-listed (Write id v) k f = done-length f
done-listed Shutdown k f = done-length f
done-listed Status k f = absurd (omega arith)
done-listed (Read id) k f = absurd (omega arith)
done-listed Priority k f = absurd (omega arith)
done-listed Data k f = absurd (omega arith)

pub status_listed : (f : ℕ) (r : Report) → length r.ids ≡ 8 → length (status_answer f r) ≡ (command_row Status).answer
unfolding command_row command_place
status_listed = status_length

pub value_listed : (f id : ℕ) (v : ℤ) → length (value_answer f id v) ≡ (command_row (Read id)).answer
unfolding command_row command_place
value_listed = value_length

pub data_listed : (c : Command) → (c ≡ Priority) ⊎ (c ≡ Data) → (f : ℕ) (block : List ℕ) → length block ≡ 256
    → length (data_answer f block) ≡ (command_row c).answer
unfolding command_row command_place
data_listed c w f block e =
    ⊎_elim (λ h. rw h (data_length f block e)) (λ h. rw h (data_length f block e)) w

-- whoever gets an answer finds its CRC right
pub answer_right_lem : (f s : ℕ) (body : List ℕ) → crc_right (answer_of f s body) ≡ true
unfolding answer_of
answer_right_lem f s body = closed_right (f ∷ s ∷ body)

-- ---- commands

-- a command's bytes are as many as the table says
pub bytes-listed : (c : Command) → length (command_bytes c) ≡ (command_row c).bytes
unfolding command_bytes body_of value_body command_row command_place answer_of with_crc field_bytes laid_out high_first
bytes-listed (Initialise f) = refl
bytes-listed Status = refl
bytes-listed (Update f) = refl
bytes-listed (Write id v) = refl
bytes-listed (Read id) = refl
bytes-listed Priority = refl
bytes-listed Data = refl
bytes-listed Shutdown = refl

-- a command's code is a code, and its row is found by it
pub code_listed : (c : Command) → (is_code (command_row c).code ≡ true) × (code_row (command_row c).code ≡ command_row c)
unfolding command_row command_place is_code listed_in code_row find_in
code_listed (Initialise f) = (refl, refl)
code_listed Status = (refl, refl)
code_listed (Update f) = (refl, refl)
code_listed (Write id v) = (refl, refl)
code_listed (Read id) = (refl, refl)
code_listed Priority = (refl, refl)
code_listed Data = (refl, refl)
code_listed Shutdown = (refl, refl)

-- ---- bounds

-- fields within their bounds, as facts; the test and the facts go both ways
pub record Within (f : Fields) : Type 0 where
  pub mode : f.mode ≤ 3
  pub milliseconds : f.milliseconds ≤ 999
  pub priority : f.priorityremaining ≤ f.prioritylimit
  pub memory : f.memoryremaining ≤ f.memorylimit
  pub least : 1 ≤ f.poll
  pub most : f.poll ≤ 60000

pub bounded_within : (f : Fields) → fields_bounded f ≡ true → Within f
unfolding fields_bounded
bounded_within f h =
    let five = (and-eq-true_iff _ (leb f.poll 60000)).0 h in
    let four = (and-eq-true_iff _ (leb 1 f.poll)).0 five.0 in
    let three = (and-eq-true_iff _ (leb f.memoryremaining f.memorylimit)).0 four.0 in
    let two = (and-eq-true_iff _ (leb f.priorityremaining f.prioritylimit)).0 three.0 in
    let one = (and-eq-true_iff (leb f.mode 3) (leb f.milliseconds 999)).0 two.0 in
    record {
      mode = leb-true _ _ one.0;
      milliseconds = leb-true _ _ one.1;
      priority = leb-true _ _ two.1;
      memory = leb-true _ _ three.1;
      least = leb-true _ _ four.1;
      most = leb-true _ _ five.1;
    }

pub within_bounded : (f : Fields) → Within f → fields_bounded f ≡ true
unfolding fields_bounded
within_bounded f w =
    simp (
      le-leb _ _ w.mode,
      le-leb _ _ w.milliseconds,
      le-leb _ _ w.priority,
      le-leb _ _ w.memory,
      le-leb _ _ w.least,
      le-leb _ _ w.most,
    )
