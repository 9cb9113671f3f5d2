-- What is read of a line is heard again from the memory in which an answer's bytes lie.
-- Assumes nothing.
use Prim.Native.Nat.{ℕ, ◌*◌, ◌≤◌}
use native.Mathlib.Omega.{arith}
use mathlib.Core.Path.{◌≡◌, refl}
use mathlib.Core.Bool.{◌&&◌}
use mathlib.Core.List.{List, [], ◌∷◌}
use lib.Dec.{eqb}
use lib.ListN.{length, take, drop, get_or, length-drop}
use lib.Seq.{sets}
use Rattle.rows.proofs.Bool.{split, by-test}
use Rattle.items.specs.Text.{bytes_in}
use Rattle.std.specs.Prelude.{Option, Some, None}
use Rattle.decimals.specs.declared.Number.{Number}
use Rattle.decimals.specs.Reading.{numbers_in}
use Rattle.lines.specs.Asked.{one_byte}
use Rattle.lines.proofs.Stored.{stored, bytes_most}
use Rattle.aircraft_lines.specs.Letters.{letter_q, letter_y, letter_p, letter_n}
use Rattle.aircraft_lines.specs.Asked.{Ask, number_at, is_plain, is_value, all_plain, is_spaced, bare_asked, command_asked, query_of, query_in, form_asked, is_silence, taking_in, answer_in, ask_in, heard_bytes, answer_bytes, bytes_left}

-- nothing is heard of a line of another letter
abbrev Unheard : Ask → Type 0
Unheard a = heard_bytes a ≡ []

bare_unheard : (code : ℕ) → Unheard (bare_asked code)
unfolding bare_asked heard_bytes
bare_unheard code =
    by-test Unheard (eqb code 0x91) (λ _. refl)
    (λ _. by-test Unheard (eqb code 0x95) (λ _. refl)
    (λ _. by-test Unheard (eqb code 0x96) (λ _. refl)
    (λ _. by-test Unheard (eqb code 0x9F) (λ _. refl) (λ _. refl))))

command_unheard : (code : ℕ) (l : List (Option Number)) → Unheard (command_asked code l)
unfolding command_asked heard_bytes
command_unheard code l =
    by-test Unheard (eqb (length l) 0) (λ _. bare_unheard code)
    (λ _. by-test Unheard (eqb code 0x90 && (eqb (length l) 9 && all_plain l)) (λ _. refl)
    (λ _. by-test Unheard (eqb code 0x92 && (eqb (length l) 9 && all_plain l)) (λ _. refl)
    (λ _. by-test Unheard (eqb code 0x93 && (eqb (length l) 2 && (is_plain (number_at l 0) && is_value (number_at l 1)))) (λ _. refl)
    (λ _. by-test Unheard (eqb code 0x94 && (eqb (length l) 1 && is_plain (number_at l 0))) (λ _. refl) (λ _. refl)))))

query_of_unheard : (o : Option ℕ) (t : List ℕ) → Unheard (query_of o t)
unfolding query_of heard_bytes
query_of_unheard None t = refl
query_of_unheard (Some code) t = by-test Unheard (is_spaced t) (λ _. command_unheard code (numbers_in (drop 4 t))) (λ _. refl)

query_unheard : (t : List ℕ) → Unheard (query_in t)
unfolding query_in
query_unheard t = query_of_unheard (one_byte (take 3 (drop 1 t))) t

form_unheard : (vs : List ℕ) → Unheard (form_asked vs)
unfolding heard_bytes
form_unheard [] = refl
form_unheard (a ∷ []) = refl
form_unheard (a ∷ b ∷ []) = refl
form_unheard (a ∷ b ∷ c ∷ vs) = refl

taking_unheard : (t : List ℕ) → Unheard (taking_in t)
unfolding taking_in heard_bytes
taking_unheard t = by-test Unheard (bytes_in (drop 1 t)).whole (λ _. form_unheard (bytes_in (drop 1 t)).values) (λ _. refl)

module _ (t l : List ℕ) (h : length t ≤ 3 * length l) where
  abbrev Front : List ℕ → Ask → Type 0
  Front left a = take (length (heard_bytes a)) (sets l 0 left) ≡ heard_bytes a

  unheard : (left : List ℕ) (a : Ask) → Unheard a → Front left a
  unheard left a e = rw e

  fits_in : length (bytes_in (drop 1 t)).values ≤ length l
  fits_in = omega (arith, bytes_most (drop 1 t), length-drop 1 t)

  answer_front : Front (answer_bytes t) (answer_in t)
  unfolding answer_bytes answer_in heard_bytes
  answer_front =
      split (is_silence t) (λ e. rw e)
      (λ e. rw e (by-test (Front (bytes_in (drop 1 t)).values) (bytes_in (drop 1 t)).whole (λ _. stored (bytes_in (drop 1 t)).values l fits_in) (λ _. refl)))

  -- the bytes of an answer stand at the front of the lent ones
  pub heard_front : Front (bytes_left t) (ask_in t)
  unfolding bytes_left ask_in heard_bytes
  heard_front =
      by-test (Front (bytes_left t)) (eqb (get_or t 0 0) letter_q) (λ _. unheard (bytes_left t) (query_in t) (query_unheard t))
      (λ _. by-test (Front (bytes_left t)) (eqb (get_or t 0 0) letter_y) (λ _. unheard (bytes_left t) (taking_in t) (taking_unheard t))
      (λ _. by-test (Front (bytes_left t)) (eqb (get_or t 0 0) letter_p) (λ e. rw e answer_front)
      (λ _. by-test (Front (bytes_left t)) (eqb (get_or t 0 0) letter_n && eqb (length t) 1) (λ _. refl) (λ _. refl))))
