-- An answer that `packets` writes is read as what it shows.
-- Assumes nothing.
use Prim.Native.Nat.{ℕ, ◌^◌, ◌<◌}
use native.Mathlib.Omega.{arith}
use mathlib.Core.Path.{◌≡◌, refl, ap, ◌∙◌}
use mathlib.Core.Bool.{true, ◌||◌}
use mathlib.Core.List.{List, [], ◌∷◌}
use borrow.Author.Tests.{eq-eqb, ne_eqb}
use lib.Dec.{eqb}
use lib.IntN.{ℤ}
use lib.ListN.{length, get_or}
use lib.Seq.{take_at}
use lib.Signed.{mag}
use Rattle.rows.specs.Rows.{gave}
use Rattle.crc.specs.Crc.{crc_of}
use Rattle.numbers.specs.Numbers.{high_first, number_at, signed_of, unsigned_of}
use Rattle.numbers.proofs.Digits.{number-back}
use Rattle.numbers.proofs.Complement.{signed_back, unsigned_below}
use Rattle.packets.specs.declared.Command.{Command}
use Rattle.packets.specs.declared.Report.{Report}
use Rattle.packets.specs.Commands.{code_row, is_code, command_row}
use Rattle.packets.specs.Reading.{first, second, third, crc_right}
use Rattle.packets.specs.Answers.{with_crc, answer_of, error_answer, status_body, value_body}
use Rattle.packets.proofs.Laws.{answer_right_lem, error_length, code_listed}
use Rattle.airframe.specs.Reading.{Meant, failed, status, value, success_right, answer_right, block_in, ids_in, report_in, request_in, body_meant, read_as, status_shown}

-- ---- by its first two bytes, its length and its CRC

module _ (code : ℕ) (a : List ℕ) (listed : is_code code ≡ true) (crc : crc_right a ≡ true) (begins : first a ≡ code) where
  error_is : second a ≡ 0x09 → length a ≡ 5 → read_as code a ≡ gave (failed (third a))
  unfolding read_as answer_right
  error_is s l = simp (listed, crc, eq-eqb (first a) code begins, eq-eqb (second a) 0x09 s, eq-eqb (length a) 5 l)

  success_is : second a ≡ 0x01 → length a ≡ (code_row code).answer → (eqb (code_row code).kind 2 || eqb (third a) 0x7E) ≡ true
      → read_as code a ≡ gave (body_meant ((code_row code).command a) a)
  unfolding read_as answer_right success_right
  success_is s l t =
      simp (listed, crc, eq-eqb (first a) code begins, ne_eqb (second a) 0x09 (λ e. omega arith), eq-eqb (second a) 0x01 s, eq-eqb (length a) (code_row code).answer l, t)

-- an error answer to a command, and a success with any body
pub error_read : (c : Command) (n : ℕ) → read_as (command_row c).code (error_answer (command_row c).code n) ≡ gave (failed n)
unfolding error_answer answer_of with_crc
error_read c n =
    let code = (command_row c).code in
    error_is code (error_answer code n) (code_listed c).0 (answer_right_lem code 0x09 (n ∷ [])) refl refl (error_length code n)

module _ (c : Command) (body : List ℕ) where
  abbrev answer : List ℕ
  answer = answer_of (command_row c).code 0x01 body

  pub success-read : length answer ≡ (command_row c).answer → (eqb (command_row c).kind 2 || eqb (third answer) 0x7E) ≡ true
      → read_as (command_row c).code answer ≡ gave (body_meant ((command_row c).command answer) answer)
  unfolding answer_of with_crc
  success-read l t =
      let code = (command_row c).code in
      let row = (code_listed c).1 in
      success_is code answer (code_listed c).0 (answer_right_lem code 0x01 body) refl refl (rw row l) (rw row t)
      ∙ rw row refl

-- ---- what a body shows

abbrev pub value_in : List ℕ → Meant
value_in a = value (get_or a 2 0) (signed_of 4 (number_at a 3 4))

pub shown-back : (code : ℕ) (r : Report) (request : ℕ) → r.flags < 2 ^ 16 → r.priority < 2 ^ 16 → r.ordinary < 2 ^ 32
    → length r.ids ≡ 8
    → status (report_in (answer_of code 0x01 (status_shown r request))) (request_in (answer_of code 0x01 (status_shown r request))) ≡ status r request
unfolding answer_of with_crc status_shown high_first number_at report_in request_in ids_in
shown-back code r request f p o i =
    let flags = number-back 2 r.flags f in
    let priority = number-back 2 r.priority p in
    let ordinary = number-back 4 r.ordinary o in
    let ids = take_at r.ids (high_first 2 (crc_of (code ∷ 0x01 ∷ status_shown r request))) 8 i in
    rw (flags, priority, ordinary, ids)

-- the pod's own has 0 there
pub report_back : (code : ℕ) (r : Report) → r.flags < 2 ^ 16 → r.priority < 2 ^ 16 → r.ordinary < 2 ^ 32 → length r.ids ≡ 8
    → status (report_in (answer_of code 0x01 (status_body r))) (request_in (answer_of code 0x01 (status_body r))) ≡ status r 0
unfolding status_body status_shown
report_back code r = shown-back code r 0

pub value_back : (code id : ℕ) (v : ℤ) → mag v < 2 ^ 31 → value_in (answer_of code 0x01 (value_body id v)) ≡ value id v
unfolding answer_of with_crc value_body high_first number_at
value_back code id v h =
    ap (λ (u : ℕ). value id (signed_of 4 u)) (number-back 4 (unsigned_of 4 v) (unsigned_below 3 v h)) ∙ ap (value id) (signed_back 3 v h)

pub block_back : (code : ℕ) (b : List ℕ) → length b ≡ 256 → block_in (answer_of code 0x01 b) ≡ b
unfolding answer_of with_crc block_in
block_back code b h = take_at b (high_first 2 (crc_of (code ∷ 0x01 ∷ b))) 256 h
