-- What was closed by its CRC has a right CRC, and a command's bytes are read as that command.
use Prim.Native.Nat.{ℕ, ◌+◌, ◌*◌, ◌/◌, ◌%◌, ◌≤◌, ◌-◌}
use native.Mathlib.Omega.{arith}
use mathlib.Core.Path.{◌≡◌, refl, sym, ap, ◌∙◌}
use mathlib.Core.List.{List, [], ◌∷◌}
use mathlib.Core.Bool.{true, false}
use borrow.Author.Tests.{le-leb, eq-eqb, ne_eqb}
use lib.ListN.{length, take, drop, length-append}
use lib.Seq.{take_at, drop_at, take_all}
use Rattle.crc.specs.Crc.{crc_of}
use Rattle.crc.proofs.Laws.{below}
use Rattle.packets.specs.declared.Fields.{Fields}
use Rattle.packets.specs.declared.Command.{Command}
use Rattle.packets.specs.declared.Command.TheVariants.{Initialise, Status, Update, Write, Read, Priority, Data, Shutdown}
use Rattle.packets.specs.declared.Parsed.TheVariants.{Acknowledgement, Asked}
use Rattle.numbers.specs.Numbers.{high_first, number_of, number_at, signed_of, unsigned_of}
use Rattle.numbers.specs.Layout.{laid_out}
use Rattle.numbers.proofs.ReadBack.{read_back}
use Rattle.packets.specs.Commands.{field_parts, fields_of, fields_in, find_in, listed_in, code_row, is_code, command_place, command_row}
use Rattle.packets.specs.Reading.{first, second, crc_right, acknowledges, packet_read}
use Rattle.packets.specs.Answers.{with_crc, answer_of, error_answer, done_answer, value_body, field_bytes, body_of, command_bytes}
use Rattle.packets.proofs.Sendable.{FieldsFit, Sendable}
use Rattle.numbers.proofs.Digits.{high_first-length, number-back}
use Rattle.numbers.proofs.Complement.{signed_back, unsigned_below}
use Rattle.packets.proofs.Checks.{acknowledged, asked}

closed_length : (head : List ℕ) → length (with_crc head) ≡ length head + 2
unfolding with_crc
closed_length head =
    length-append head (high_first 2 (crc_of head)) ∙ ap (λ (k : ℕ). length head + k) (high_first-length 2 (crc_of head))

-- the last two bytes of what was closed, and the rest
rest_of : (head : List ℕ) → take (length (with_crc head) - 2) (with_crc head) ≡ head
unfolding with_crc
rest_of head = let n = closed_length head in take_at head (high_first 2 (crc_of head)) (length (with_crc head) - 2) (omega arith)

last_of : (head : List ℕ) → drop (length (with_crc head) - 2) (with_crc head) ≡ high_first 2 (crc_of head)
unfolding with_crc
last_of head = let n = closed_length head in drop_at head (high_first 2 (crc_of head)) (length (with_crc head) - 2) (omega arith)

pub closed_right : (head : List ℕ) → crc_right (with_crc head) ≡ true
unfolding crc_right number_at
closed_right head =
    let short : length (high_first 2 (crc_of head)) ≤ 2 = omega (arith, high_first-length 2 (crc_of head)) in
    eq-eqb _ _ (
    ap crc_of (rest_of head)
    ∙ sym (
    ap (λ (l : List ℕ). number_of (take 2 l)) (last_of head)
    ∙ ap number_of (take_all 2 (high_first 2 (crc_of head)) short)
    ∙ number-back 2 (crc_of head) (below head)
    )
    )

-- the two answers of five bytes, whose first byte could be a code
pub done-taken : (f : ℕ) → 0x90 ≤ f → f ≤ 0x9F → packet_read (done_answer f) ≡ Acknowledgement f true
unfolding done_answer answer_of with_crc high_first acknowledges
done-taken f h k =
    let right = closed_right (f ∷ 0x01 ∷ 0x7E ∷ []) in
    acknowledged (done_answer f) (omega arith) right (simp (right, le-leb 0x90 f h, le-leb f 0x9F k))

pub error_taken : (f n : ℕ) → 0x90 ≤ f → f ≤ 0x9F → packet_read (error_answer f n) ≡ Acknowledgement f false
unfolding error_answer answer_of with_crc high_first acknowledges
error_taken f n h k =
    let right = closed_right (f ∷ 0x09 ∷ n ∷ []) in
    acknowledged (error_answer f n) (omega arith) right (simp (right, le-leb 0x90 f h, le-leb f 0x9F k))

-- fields that fit come back from the bytes that carry them: by the law of every table, and the time from its two parts
fields_back : (code : ℕ) (f : Fields) → FieldsFit f → fields_in (answer_of code 0x01 (field_bytes f)) ≡ f
unfolding fields_in fields_of answer_of with_crc field_bytes
fields_back code f h =
    let seconds : (f.seconds * 1024 + f.milliseconds) / 1024 ≡ f.seconds = omega arith in
    let milliseconds : (f.seconds * 1024 + f.milliseconds) % 1024 ≡ f.milliseconds = omega arith in
    ap fields_of (read_back field_parts f (code ∷ 0x01 ∷ []) (high_first 2 (crc_of (code ∷ 0x01 ∷ laid_out field_parts f))) h.each)
    ∙ simp (seconds, milliseconds)

-- a command's bytes pass every check, if they have not the acknowledgement form and its row gives the command back
passes : (c : Command) → 4 ≤ length (command_bytes c) → acknowledges (command_bytes c) ≡ false
    → is_code (first (command_bytes c)) ≡ true → second (command_bytes c) ≡ 0x01 → length (command_bytes c) ≡ (code_row (first (command_bytes c))).bytes
    → (code_row (first (command_bytes c))).command (command_bytes c) ≡ c → packet_read (command_bytes c) ≡ Asked c
unfolding command_bytes answer_of
passes c four form k s l e =
    asked (command_bytes c) four (closed_right ((command_row c).code ∷ 0x01 ∷ body_of c)) form k s l ∙ ap Asked e

-- each command that can be sent is read as it was sent
pub sent : (c : Command) → Sendable c → packet_read (command_bytes c) ≡ Asked c
unfolding command_bytes command_row command_place body_of value_body answer_of with_crc field_bytes laid_out high_first acknowledges is_code listed_in code_row find_in number_at
sent (Initialise f) h = passes (Initialise f) (omega arith) refl refl refl refl (ap Initialise (fields_back 0x90 f h))
sent Status h = passes Status (omega arith) refl refl refl refl refl
sent (Update f) h = passes (Update f) (omega arith) refl refl refl refl (ap Update (fields_back 0x92 f h))
sent (Write id v) h =
    passes (Write id v) (omega arith) refl refl refl refl
    (ap (λ (u : ℕ). Write id (signed_of 4 u)) (number-back 4 (unsigned_of 4 v) (unsigned_below 3 v h)) ∙ ap (Write id) (signed_back 3 v h))
sent (Read id) h =
    passes (Read id) (omega arith) (simp (closed_right (0x94 ∷ 0x01 ∷ id ∷ []), ne_eqb id 0x7E h)) refl refl refl refl
sent Priority h = passes Priority (omega arith) refl refl refl refl refl
sent Data h = passes Data (omega arith) refl refl refl refl refl
sent Shutdown h = passes Shutdown (omega arith) refl refl refl refl refl
