-- A command that is read of a line carries the line's code and numbers, and every command has its line.
-- Assumes nothing.
use Prim.Native.Nat.{ℕ, zero, suc}
use native.Mathlib.Omega.{arith}
use mathlib.Core.Path.{◌≡◌, refl, sym, ap, ap₂, subst, ◌∙◌}
use mathlib.Core.Bool.{true, false, ◌&&◌, false≢true}
use mathlib.Core.List.{List, [], ◌∷◌, map}
use lib.Dec.{eqb}
use lib.IntN.{ℤ, pos, negsuc}
use lib.ListN.{length}
use borrow.Author.Tests.{eqb-true}
use Rattle.rows.proofs.Bool.{by-test, and_left, and_right, not-true}
use Rattle.packets.specs.declared.Command.TheVariants.{Initialise, Status, Update, Write, Read, Priority, Data, Shutdown}
use Rattle.packets.specs.Commands.{command_place, command_row, field_values, values_of}
use Rattle.std.specs.Prelude.{Option, Some, None, option_map}
use Rattle.decimals.specs.declared.Number.{Number}
use Rattle.aircraft_lines.specs.Asked.{Ask, sends, takes, hears, waits, again, other, number_at, is_plain, all_plain, is_value, size_of, value_of, value_at, fields_asked, bare_asked, command_asked}
use Rattle.aircraft_lines.proofs.Numbered.{nine_sizes}
use Rattle.aircraft_lines.specs.Statements.{CommandCarried, LeadingMinus, EachAsked}

pub leading_minus : LeadingMinus
leading_minus zero = (refl, refl)
leading_minus (suc n) = (refl, refl)

-- what is said of a line that asks for a command
abbrev Carries : ℕ → List (Option Number) → Ask → Type 0
Carries code l (sends c) = ((command_row c).code ≡ code) × (map Some (values_of c) ≡ map (option_map value_of) l)
Carries code l (takes first form) = Unit {0}
Carries code l (hears bs) = Unit {0}
Carries code l waits = Unit {0}
Carries code l again = Unit {0}
Carries code l other = Unit {0}

-- a number without a sign is its size
plain_value : (n : Option Number) → is_plain n ≡ true → Some (pos (size_of n)) ≡ option_map value_of n
plain_value None h = absurd (false≢true h)
plain_value (Some n) h = let e : n.minus ≡ false = not-true h in rw e

is_value_at : (n : Option Number) → is_value n ≡ true → Some (value_at n) ≡ option_map value_of n
is_value_at None h = absurd (false≢true h)
is_value_at (Some n) h = refl

plain-values : (l : List (Option Number)) → all_plain l ≡ true → map Some (map pos (map size_of l)) ≡ map (option_map value_of) l
unfolding all_plain
plain-values [] h = refl
plain-values (n ∷ l) h =
    ap₂ (λ (v : Option ℤ) (vs : List (Option ℤ)). v ∷ vs) (plain_value n (and_left (is_plain n) (all_plain l) h)) (plain-values l (and_right (is_plain n) (all_plain l) h))

-- nine numbers, two, one and none
module _ (l : List (Option Number)) where
  nine_values : (eqb (length l) 9 && all_plain l) ≡ true → map Some (map pos (field_values (fields_asked l))) ≡ map (option_map value_of) l
  unfolding field_values
  nine_values h =
      ap (λ (s : List ℕ). map Some (map pos s)) (nine_sizes l (eqb-true (length l) 9 (and_left (eqb (length l) 9) (all_plain l) h)))
      ∙ plain-values l (and_right (eqb (length l) 9) (all_plain l) h)

two_values : (l : List (Option Number)) → length l ≡ 2 → is_plain (number_at l 0) ≡ true → is_value (number_at l 1) ≡ true
    → map Some (pos (size_of (number_at l 0)) ∷ value_at (number_at l 1) ∷ []) ≡ map (option_map value_of) l
two_values [] e h k = absurd (omega arith)
two_values (a ∷ []) e h k = absurd (omega arith)
two_values (a ∷ b ∷ []) e h k = rw (plain_value a h, is_value_at b k)
two_values (a ∷ b ∷ c ∷ l) e h k = absurd (omega arith)

one_value : (l : List (Option Number)) → length l ≡ 1 → is_plain (number_at l 0) ≡ true → map Some (pos (size_of (number_at l 0)) ∷ []) ≡ map (option_map value_of) l
one_value [] e h = absurd (omega arith)
one_value (a ∷ []) e h = rw (plain_value a h)
one_value (a ∷ b ∷ l) e h = absurd (omega arith)

no_values : (l : List (Option Number)) → length l ≡ 0 → [] ≡ map (option_map value_of) l
no_values [] e = refl
no_values (a ∷ l) e = absurd (omega arith)

bare_carries : (code : ℕ) (l : List (Option Number)) → length l ≡ 0 → Carries code l (bare_asked code)
unfolding bare_asked command_row command_place values_of
bare_carries code l z =
    by-test (Carries code l) (eqb code 0x91) (λ e. (sym (eqb-true code 0x91 e), no_values l z))
    (λ _. by-test (Carries code l) (eqb code 0x95) (λ e. (sym (eqb-true code 0x95 e), no_values l z))
    (λ _. by-test (Carries code l) (eqb code 0x96) (λ e. (sym (eqb-true code 0x96 e), no_values l z))
    (λ _. by-test (Carries code l) (eqb code 0x9F) (λ e. (sym (eqb-true code 0x9F e), no_values l z)) (λ _. tt))))

asked_carries : (code : ℕ) (l : List (Option Number)) → Carries code l (command_asked code l)
unfolding command_asked command_row command_place values_of
asked_carries code l =
    let nine = eqb (length l) 9 && all_plain l in
    let pair = is_plain (number_at l 0) && is_value (number_at l 1) in
    let two = eqb (length l) 2 && pair in
    let one = eqb (length l) 1 && is_plain (number_at l 0) in
    by-test (Carries code l) (eqb (length l) 0) (λ z. bare_carries code l (eqb-true (length l) 0 z))
    (λ _. by-test (Carries code l) (eqb code 0x90 && nine)
    (λ e. (sym (eqb-true code 0x90 (and_left (eqb code 0x90) nine e)), nine_values l (and_right (eqb code 0x90) nine e)))
    (λ _. by-test (Carries code l) (eqb code 0x92 && nine)
    (λ e. (sym (eqb-true code 0x92 (and_left (eqb code 0x92) nine e)), nine_values l (and_right (eqb code 0x92) nine e)))
    (λ _. by-test (Carries code l) (eqb code 0x93 && two)
    (λ e.
    let r = and_right (eqb code 0x93) two e in
    (sym (eqb-true code 0x93 (and_left (eqb code 0x93) two e)), two_values l (eqb-true (length l) 2 (and_left (eqb (length l) 2) pair r)) (and_left (is_plain (number_at l 0)) (is_value (number_at l 1)) (and_right (eqb (length l) 2) pair r)) (and_right (is_plain (number_at l 0)) (is_value (number_at l 1)) (and_right (eqb (length l) 2) pair r))))
    (λ _. by-test (Carries code l) (eqb code 0x94 && one)
    (λ e.
    let r = and_right (eqb code 0x94) one e in
    (sym (eqb-true code 0x94 (and_left (eqb code 0x94) one e)), one_value l (eqb-true (length l) 1 (and_left (eqb (length l) 1) (is_plain (number_at l 0)) r)) (and_right (eqb (length l) 1) (is_plain (number_at l 0)) r)))
    (λ _. tt)))))

pub command_carried : CommandCarried
command_carried code l c e = subst (Carries code l) e (asked_carries code l)

-- ---- and every command has its line

pub each_asked : EachAsked
unfolding command_asked bare_asked command_row command_place values_of field_values all_plain
each_asked (Initialise f) = refl
each_asked Status = refl
each_asked (Update f) = refl
each_asked (Write id (pos n)) = refl
each_asked (Write id (negsuc n)) = refl
each_asked (Read id) = refl
each_asked Priority = refl
each_asked Data = refl
each_asked Shutdown = refl
