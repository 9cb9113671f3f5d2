-- One byte replaced by another: an answer is wrong then, and a command or an acknowledgement is answered 0x01.
use Prim.Native.Nat.{ℕ, ◌<◌}
use native.Mathlib.Omega.{arith}
use mathlib.Core.Path.{◌≡◌, refl, ap}
use mathlib.Core.List.{List, [], ◌∷◌}
use mathlib.Core.Bool.{true, false, ◌&&◌, ◌||◌}
use lib.Dec.{eqb}
use lib.ListN.{length, length-set}
use Rattle.rows.specs.Rows.{refused}
use Rattle.rows.proofs.Bool.{and_left, and_right, and-false}
use Rattle.packets.specs.declared.Command.{Command}
use Rattle.packets.specs.declared.Command.TheVariants.{Initialise, Status, Update, Write, Read, Priority, Data, Shutdown}
use Rattle.numbers.specs.Numbers.{high_first, unsigned_of}
use Rattle.packets.specs.Commands.{field_parts, command_place, command_row, is_code}
use Rattle.packets.specs.declared.Parsed.TheVariants.{Error}
use Rattle.packets.specs.Reading.{first, second, crc_right, packet_read}
use Rattle.packets.specs.Answers.{value_body, answer_of, error_answer, done_answer, field_bytes, body_of, command_bytes}
use Rattle.params.specs.Rows.{param_row}
use Rattle.params.specs.Rules.{is_id, in_row}
use Rattle.params.proofs.Laws.{id_within}
use Rattle.numbers.proofs.Below.{Bytes, none_bytes, cons_bytes, number-bytes, table_bytes}
use Rattle.packets.proofs.Checks.{damaged}
use Rattle.packets.proofs.Damage.{damaged_wrong, answer-bytes}
use Rattle.packets.proofs.Laws.{answer_right_lem}
use Rattle.airframe.specs.declared.Form.TheVariants.{Taken, Failed}
use Rattle.airframe.specs.Building.{command_fits, acknowledgement_bytes, refusal_number}
use Rattle.airframe.specs.Reading.{answer_right, success_right, read_as}
use Rattle.airframe.specs.Statements.{AllBytes, Replaced, DamagedAnswer, DamagedCommand, DamagedAcknowledgement}
use Rattle.airframe.proofs.Acknowledged.{first_within}

-- with one byte replaced by another a right CRC is wrong
replaced_wrong : {a b : List ℕ} → AllBytes a → crc_right a ≡ true → Replaced a b → crc_right b ≡ false
replaced_wrong {a} f h r =
    rw r.rest (damaged_wrong a r.place r.byte f h r.within r.small r.other)

-- ---- an answer

pub right_crc : (code : ℕ) (a : List ℕ) → answer_right code a ≡ true → crc_right a ≡ true
unfolding answer_right
right_crc code a h =
    and_right (is_code code) (crc_right a)
    (and_left _ (eqb (first a) code) (and_left _ (eqb (second a) 0x09 && eqb (length a) 5 || success_right code a) h))

wrong_crc : (code : ℕ) (b : List ℕ) → crc_right b ≡ false → read_as code b ≡ refused 23
unfolding read_as answer_right refusal_number
wrong_crc code b e = simp (e, and-false (is_code code))

pub damaged-answer : DamagedAnswer
damaged-answer code a b f h r = wrong_crc code b (replaced_wrong f (right_crc code a h) r)

-- ---- what the pod reads

-- whatever is built of bytes
damaged-read : (f s : ℕ) (body b : List ℕ) → f < 256 → s < 256 → Bytes body → Replaced (answer_of f s body) b → packet_read b ≡ Error (first b) 0x01
damaged-read f s body b small less bytes r =
    damaged b (omega (arith, ap length r.rest, length-set (answer_of f s body) r.place r.byte, r.within))
    (replaced_wrong (answer-bytes f s body small less bytes) (answer_right_lem f s body) r)

-- ---- a command

-- an id is a byte, and numbers are written in bytes
id_byte : (id : ℕ) → is_id id ≡ true → id < 256
id_byte id h = omega (arith, id_within id h)

body_bytes : (c : Command) → command_fits c ≡ true → Bytes (body_of c)
unfolding command_fits body_of field_bytes value_body
body_bytes (Initialise f) h = table_bytes field_parts f
body_bytes Status h = none_bytes
body_bytes (Update f) h = table_bytes field_parts f
body_bytes (Write id v) h = cons_bytes id (high_first 4 (unsigned_of 4 v)) (id_byte id (and_left (is_id id) (in_row (param_row id) v) h)) (number-bytes 4 (unsigned_of 4 v))
body_bytes (Read id) h = cons_bytes id [] (id_byte id h) none_bytes
body_bytes Priority h = none_bytes
body_bytes Data h = none_bytes
body_bytes Shutdown h = none_bytes

code_byte : (c : Command) → (command_row c).code < 256
unfolding command_row command_place
code_byte (Initialise f) = omega arith
code_byte Status = omega arith
code_byte (Update f) = omega arith
code_byte (Write id v) = omega arith
code_byte (Read id) = omega arith
code_byte Priority = omega arith
code_byte Data = omega arith
code_byte Shutdown = omega arith

pub damaged-command : DamagedCommand
unfolding command_bytes
damaged-command c b h r =
    damaged-read (command_row c).code 0x01 (body_of c) b (code_byte c) (omega arith) (body_bytes c h) r

-- ---- an acknowledgement

one_byte_lem : (x : ℕ) → x < 256 → Bytes (x ∷ [])
one_byte_lem x h = cons_bytes x [] h none_bytes

pub damaged-acknowledgement : DamagedAcknowledgement
unfolding acknowledgement_bytes done_answer error_answer
damaged-acknowledgement f Taken b h e r =
    damaged-read f 0x01 (0x7E ∷ []) b (omega (arith, (first_within f h).1)) (omega arith) (one_byte_lem 0x7E (omega arith)) r
damaged-acknowledgement f (Failed n) b h e r =
    damaged-read f 0x09 (n ∷ []) b (omega (arith, (first_within f h).1)) (omega arith) (one_byte_lem n (e n refl)) r
