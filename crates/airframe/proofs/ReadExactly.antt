-- Bytes that are read as a meaning are those of the answer that has it.
-- Assumes nothing.
use Prim.Native.Nat.{ℕ, suc, ◌+◌, ◌-◌, ◌≤◌}
use native.Mathlib.Omega.{arith}
use mathlib.Core.Path.{◌≡◌, refl, sym, ap, ap₂, subst, ◌∙◌}
use mathlib.Core.Bool.{true, false, false≢true, or-false, ◌&&◌, ◌||◌}
use mathlib.Core.List.{List, [], ◌∷◌, ◌++◌}
use mathlib.Core.Logic.{inl, inr}
use borrow.Author.Tests.{eqb-true, ne_eqb}
use lib.Dec.{eqb}
use lib.ListN.{length, get_or, take, drop, length-drop, take-append-drop}
use lib.Seq.{take_all, take-add, drop-drop, drop-cons, length-take-le}
use Rattle.rows.specs.Rows.{Said, gave}
use Rattle.rows.proofs.Bool.{split, and_left, and_right}
use Rattle.rows.proofs.Laws.{gave_not}
use Rattle.crc.specs.Crc.{crc_of}
use Rattle.numbers.specs.Numbers.{high_first, number_at, signed_of}
use Rattle.numbers.proofs.Below.{Bytes}
use Rattle.packets.specs.Commands.{CommandRow, command_rows, find_in, listed_in, code_row, is_code}
use Rattle.packets.specs.Reading.{first, second, third, crc_right}
use Rattle.packets.specs.Answers.{with_crc, answer_of, error_answer, done_answer, value_body, value_answer, data_answer}
use Rattle.packets.proofs.Rows.{Each}
use Rattle.airframe.specs.Reading.{Meant, failed, success_right, answer_right, block_in, ids_in, report_in, request_in, body_meant, status_shown, meant_bytes, CanMean}
use Rattle.airframe.specs.Statements.{ReadExactly}
use Rattle.airframe.proofs.BytesBack.{number-shown, number_fits, unsigned_back}
use Rattle.airframe.proofs.Due.{unusable, coded, failure, whole, success}
use Rattle.airframe.proofs.Damage.{right_crc}

-- ---- a list that is closed by its CRC

closed : (a : List ℕ) (n : ℕ) → length a ≡ n + 2 → Bytes a → crc_right a ≡ true → a ≡ with_crc (take n a)
unfolding with_crc crc_right
closed a n l f h =
    let end : length a - 2 ≡ n = omega arith in
    let two : length (drop n a) ≤ 2 = omega (arith, length-drop n a) in
    let crc : crc_of (take n a) ≡ number_at a n 2 = rw end at (eqb-true (crc_of (take (length a - 2) a)) (number_at a (length a - 2) 2) h) in
    sym (take-append-drop n a)
    ∙ ap (λ (r : List ℕ). take n a ++ r) (sym (take_all 2 (drop n a) two) ∙ sym (number-shown a n 2 (omega arith) f) ∙ ap (high_first 2) (sym crc))

-- which begins with its first two bytes
front : (a : List ℕ) (n : ℕ) → 2 ≤ length a → take (suc (suc n)) a ≡ first a ∷ second a ∷ take n (drop 2 a)
front [] n h = absurd (omega arith)
front (x ∷ []) n h = absurd (omega arith)
front (x ∷ y ∷ a) n h = refl

-- ---- parts of it, one behind the other

cut : (a : List ℕ) (at n m : ℕ) → take (n + m) (drop at a) ≡ take n (drop at a) ++ take m (drop (at + n) a)
cut a at n m = take-add n m (drop at a) ∙ ap (λ (r : List ℕ). take n (drop at a) ++ take m r) (drop-drop n at a)

one : (a : List ℕ) (at m : ℕ) → suc at ≤ length a → take (suc m) (drop at a) ≡ get_or a at 0 ∷ take m (drop (suc at) a)
one a at m h = rw (drop-cons a at 0 h)

shows_status_lem : (a : List ℕ) → length a ≡ 22 → Bytes a → take 18 (drop 2 a) ≡ status_shown (report_in a) (request_in a)
unfolding status_shown report_in request_in ids_in high_first
shows_status_lem a l f =
    one a 2 17 (omega arith)
    ∙ ap (λ (r : List ℕ). get_or a 2 0 ∷ r) (
    cut a 3 2 15 ∙ ap₂ ◌++◌ (sym (number-shown a 3 2 (omega arith) f)) (
    cut a 5 2 13 ∙ ap₂ ◌++◌ (sym (number-shown a 5 2 (omega arith) f)) (
    cut a 7 4 9 ∙ ap₂ ◌++◌ (sym (number-shown a 7 4 (omega arith) f)) (one a 11 8 (omega arith)))))

shows_value : (a : List ℕ) → length a ≡ 9 → Bytes a → take 5 (drop 2 a) ≡ value_body (get_or a 2 0) (signed_of 4 (number_at a 3 4))
unfolding value_body
shows_value a l f =
    one a 2 4 (omega arith)
    ∙ ap (λ (r : List ℕ). get_or a 2 0 ∷ r) (
    sym (number-shown a 3 4 (omega arith) f) ∙ ap (high_first 4) (sym (unsigned_back 4 (number_at a 3 4) (number_fits a 3 4 (omega arith) f))))

-- ---- what holds of each code of the table holds of a code

of_each : (P : ℕ → Type 0) (rs : List CommandRow) (k : ℕ) → Each (λ r. P r.code) rs → listed_in rs k ≡ true → P k
unfolding listed_in
of_each P [] k e h = absurd (false≢true h)
of_each P (r ∷ rs) k e h =
    split (eqb k r.code) (λ t. subst P (sym (eqb-true k r.code t)) e.0) (λ t. of_each P rs k e.1 (simp t at h))

by_code : (P : ℕ → Type 0) (k : ℕ) → Each (λ r. P r.code) command_rows → is_code k ≡ true → P k
unfolding is_code
by_code P k = of_each P command_rows k

-- ---- a right answer

gave_same : {m n : Meant} → ◌≡◌ {A = Said Meant} (gave m) (gave n) → m ≡ n
gave_same e = cc

module _ (code : ℕ) (a : List ℕ) (f : Bytes a) (right : answer_right code a ≡ true) where
  begins : first a ≡ code
  unfolding answer_right
  begins =
      eqb-true (first a) code
      (and_right (is_code code && crc_right a) (eqb (first a) code)
      (and_left _ (eqb (second a) 0x09 && eqb (length a) 5 || success_right code a) right))

  form : (eqb (second a) 0x09 && eqb (length a) 5 || success_right code a) ≡ true
  unfolding answer_right
  form = and_right (is_code code && crc_right a && eqb (first a) code) _ right

  bytes_are : (s n : ℕ) → second a ≡ s → length a ≡ n + 4 → a ≡ answer_of code s (take n (drop 2 a))
  unfolding answer_of
  bytes_are s n e l =
      closed a (suc (suc n)) (omega arith) f (right_crc code a right)
      ∙ ap with_crc (front a n (omega arith) ∙ ap₂ (λ (x y : ℕ). x ∷ y ∷ take n (drop 2 a)) begins e)

  abbrev Exact : Meant → Type 0
  Exact m = CanMean code m × (a ≡ meant_bytes code m)

  -- an error
  an_error : eqb (second a) 0x09 ≡ true → Exact (failed (third a))
  unfolding CanMean meant_bytes error_answer success_right
  an_error e =
      let nine = eqb-true (second a) 0x09 e in
      let five : length a ≡ 5 = eqb-true (length a) 5 (simp (e, ne_eqb (second a) 0x01 (λ z. omega arith), or-false) at form) in
      (coded code a right, bytes_are 0x09 1 nine five ∙ ap (answer_of code 0x09) (one a 2 0 (omega arith)))

  -- a success
  module _ (other : eqb (second a) 0x09 ≡ false) where
    well : success_right code a ≡ true
    well = simp other at form

    body_is : (n : ℕ) → length a ≡ n + 4 → a ≡ answer_of code 0x01 (take n (drop 2 a))
    unfolding success_right
    body_is n l =
        bytes_are 0x01 n (eqb-true (second a) 0x01 (and_left (eqb (second a) 0x01) _ (and_left (eqb (second a) 0x01 && eqb (length a) (code_row code).answer) _ well))) l

    -- of a command that shows nothing
    plain : (k : ℕ) → code ≡ k → length a ≡ 5 → eqb (code_row k).kind 2 ≡ false → a ≡ done_answer code
    unfolding success_right done_answer
    plain k e l t =
        let due : (eqb (code_row code).kind 2 || eqb (third a) 0x7E) ≡ true = and_right (eqb (second a) 0x01 && eqb (length a) (code_row code).answer) _ well in
        let type : eqb (code_row code).kind 2 ≡ false = ap (λ (j : ℕ). eqb (code_row j).kind 2) e ∙ t in
        let body : third a ≡ 0x7E = eqb-true (third a) 0x7E (simp type at due) in
        body_is 1 l ∙ ap (answer_of code 0x01) (one a 2 0 (omega arith) ∙ ap (λ (x : ℕ). x ∷ []) body)

    abbrev Means : ℕ → Type 0
    Means k = code ≡ k → Exact (body_meant ((code_row k).command a) a)

    a-success : Exact (body_meant ((code_row code).command a) a)
    unfolding CanMean meant_bytes body_meant code_row find_in value_answer data_answer block_in
    a-success =
        let due = whole code a right other in
        let full = length-take-le 256 (drop 2 a) in
        let initialise : Means 0x90 = λ e. (inl e, plain 0x90 e (due 0x90 e) refl) in
        let state : Means 0x91 = λ e. (e, body_is 18 (due 0x91 e) ∙ ap (answer_of code 0x01) (shows_status_lem a (due 0x91 e) f)) in
        let update : Means 0x92 = λ e. (inr (inl e), plain 0x92 e (due 0x92 e) refl) in
        let write : Means 0x93 = λ e. (inr (inr (inl e)), plain 0x93 e (due 0x93 e) refl) in
        let read : Means 0x94 = λ e. (e, body_is 5 (due 0x94 e) ∙ ap (answer_of code 0x01) (shows_value a (due 0x94 e) f)) in
        let priority : Means 0x95 = λ e. ((inl e, full (omega (arith, length-drop 2 a, due 0x95 e))), body_is 256 (due 0x95 e)) in
        let data-out : Means 0x96 = λ e. ((inr e, full (omega (arith, length-drop 2 a, due 0x96 e))), body_is 256 (due 0x96 e)) in
        let shutdown : Means 0x9F = λ e. (inr (inr (inr e)), plain 0x9F e (due 0x9F e) refl) in
        by_code Means code (initialise, (state, (update, (write, (read, (priority, (data-out, (shutdown, tt)))))))) (coded code a right) refl

pub read_exactly : ReadExactly
read_exactly code a m f g =
    let right : answer_right code a ≡ true = split (answer_right code a) (λ h. h) (λ h. absurd (gave_not (sym g ∙ unusable code a h))) in
    let exact : Exact code a f right m =
    split (eqb (second a) 0x09)
    (λ e. rw (gave_same (sym g ∙ failure code a right e)) (an_error code a f right e))
    (λ e. rw (gave_same (sym g ∙ success code a right e code refl)) (a-success code a f right e)) in
    (coded code a right, exact.0, exact.1)
