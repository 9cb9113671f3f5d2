-- Every answer is read as it stands.
-- Assumes nothing.
use Prim.Native.Nat.{ℕ, ◌+◌, ◌^◌, ◌<◌}
use native.Mathlib.Omega.{arith}
use mathlib.Core.Path.{◌≡◌, refl, ap, ◌∙◌}
use mathlib.Core.List.{List, [], ◌∷◌}
use lib.IntN.{ℤ}
use lib.ListN.{length}
use lib.Signed.{mag}
use Rattle.rows.specs.Rows.{gave}
use Rattle.numbers.specs.Numbers.{high_first}
use Rattle.packets.specs.declared.Command.{Command}
use Rattle.packets.specs.declared.Command.TheVariants.{Initialise, Status, Update, Write, Read, Priority, Data, Shutdown}
use Rattle.packets.specs.declared.Report.{Report}
use Rattle.packets.specs.Commands.{command_place, command_row}
use Rattle.packets.specs.Answers.{with_crc, answer_of, done_answer, value_body, value_answer, data_answer}
use Rattle.packets.proofs.Laws.{length_of_answer, done-length, value_length, data_length}
use Rattle.airframe.specs.Reading.{done, status, value, block, body_meant, read_as, status_shown}
use Rattle.airframe.specs.Statements.{AnswersRead}
use Rattle.airframe.proofs.Answers.{error_read, success-read, shown-back, value_back, block_back}

success : (c : Command) → (command_row c).kind ≡ 1 → read_as (command_row c).code (done_answer (command_row c).code) ≡ gave done
unfolding command_row command_place done_answer body_meant answer_of with_crc
success (Initialise f) k = success-read (Initialise f) (0x7E ∷ []) (done-length 0x90) refl
success (Update f) k = success-read (Update f) (0x7E ∷ []) (done-length 0x92) refl
success (Write id v) k = success-read (Write id v) (0x7E ∷ []) (done-length 0x93) refl
success Shutdown k = success-read Shutdown (0x7E ∷ []) (done-length 0x9F) refl
success Status k = absurd (omega arith)
success (Read id) k = absurd (omega arith)
success Priority k = absurd (omega arith)
success Data k = absurd (omega arith)

shown-length : (r : Report) (request : ℕ) → length r.ids ≡ 8 → length (status_shown r request) ≡ 18
unfolding status_shown high_first
shown-length r request e = omega arith

report : (r : Report) (request : ℕ) → r.flags < 2 ^ 16 → r.priority < 2 ^ 16 → r.ordinary < 2 ^ 32 → length r.ids ≡ 8
    → read_as 0x91 (answer_of 0x91 0x01 (status_shown r request)) ≡ gave (status r request)
unfolding command_row command_place body_meant
report r request f p o i =
    success-read Status (status_shown r request) (length_of_answer 0x91 0x01 (status_shown r request) ∙ ap (λ (n : ℕ). 4 + n) (shown-length r request i)) refl
    ∙ ap gave (shown-back 0x91 r request f p o i)

held : (id : ℕ) (v : ℤ) → mag v < 2 ^ 31 → read_as 0x94 (value_answer 0x94 id v) ≡ gave (value id v)
unfolding command_row command_place value_answer body_meant
held id v h = success-read (Read id) (value_body id v) (value_length 0x94 id v) refl ∙ ap gave (value_back 0x94 id v h)

brought : (b : List ℕ) → length b ≡ 256
    → (read_as 0x95 (data_answer 0x95 b) ≡ gave (block b)) × (read_as 0x96 (data_answer 0x96 b) ≡ gave (block b))
unfolding command_row command_place data_answer body_meant
brought b h = (
  success-read Priority b (data_length 0x95 b h) refl ∙ ap (λ (x : List ℕ). gave (block x)) (block_back 0x95 b h),
  success-read Data b (data_length 0x96 b h) refl ∙ ap (λ (x : List ℕ). gave (block x)) (block_back 0x96 b h),
)

pub answers_read : AnswersRead
answers_read = record { an_error = error_read; a-success = success; a_status = report; a_value_lem = held; a_block = brought }
