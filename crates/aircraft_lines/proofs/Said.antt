-- What a command's code and numbers make of it.
-- Assumes nothing.
use Prim.Native.Nat.{ℕ}
use mathlib.Core.Path.{◌≡◌, refl}
use mathlib.Core.Bool.{Bool, true, false, cond, ◌&&◌, and-false}
use mathlib.Core.List.{List, [], ◌∷◌}
use lib.Dec.{ltb, eqb}
use lib.ListN.{length}
use borrow.Author.Tests.{ne_eqb}
use Rattle.rows.proofs.Bool.{split, never}
use Rattle.packets.specs.declared.Command.TheVariants.{Write, Read}
use Rattle.std.specs.Prelude.{Option, Some, None}
use Rattle.decimals.specs.declared.Number.{Number}
use Rattle.aircraft_lines.specs.declared.Line.{Line}
use Rattle.aircraft_lines.specs.declared.Line.TheVariants.{Send, Outside}
use Rattle.airframe.specs.Given.{fields_typed, value_typed, command_typed, given_in}
use Rattle.aircraft_lines.specs.Asked.{number_at, is_plain, is_value, all_plain, size_of, value_at, sizes_in, fields_asked, line_given, bare_asked, command_asked, say_ask}

-- a choice that gives none, and one that gives some
pub chosen_none : {A : Type 0} (b : Bool) (x : A) → None ≡ cond b (Some x) None → b ≡ false
chosen_none true x e = cc
chosen_none false x e = refl

pub chosen_some : {A : Type 0} (b : Bool) (x y : A) → Some y ≡ cond b (Some x) None → (b ≡ true) × (y ≡ x)
chosen_some true x y e = (refl, cc)
chosen_some false x y e = cc

-- the line that a code and numbers give
abbrev pub line_asked : ℕ → List (Option Number) → Option Line
line_asked code l = say_ask (command_asked code l)

-- no numbers
pub bare_says : (code : ℕ) (l : List (Option Number)) → length l ≡ 0 → say_ask (bare_asked code) ≡ line_asked code l
unfolding command_asked
bare_says code l e = rw e

-- an id and a value
module _ (id v : Option Number) where
  pub write_none : (is_plain id && is_value v) ≡ false → None ≡ line_asked 0x93 (id ∷ v ∷ [])
  unfolding command_asked say_ask
  write_none h = rw h

  pub write_outside : (is_plain id && is_value v) ≡ true → (ltb (size_of id) 256 && value_typed (value_at v)) ≡ false
      → Some Outside ≡ line_asked 0x93 (id ∷ v ∷ [])
  unfolding command_asked say_ask command_typed
  write_outside h k = rw (h, k)

  pub write_says : (is_plain id && is_value v) ≡ true → (ltb (size_of id) 256 && value_typed (value_at v)) ≡ true
      → Some (Send (Write (size_of id) (value_at v))) ≡ line_asked 0x93 (id ∷ v ∷ [])
  unfolding command_asked say_ask command_typed
  write_says h k = rw (h, k)

-- an id
module _ (id : Option Number) where
  pub read_none : is_plain id ≡ false → None ≡ line_asked 0x94 (id ∷ [])
  unfolding command_asked say_ask
  read_none h = rw h

  pub read-outside : is_plain id ≡ true → ltb (size_of id) 256 ≡ false → Some Outside ≡ line_asked 0x94 (id ∷ [])
  unfolding command_asked say_ask command_typed
  read-outside h k = rw (h, k)

  pub read_says : is_plain id ≡ true → ltb (size_of id) 256 ≡ true → Some (Send (Read (size_of id))) ≡ line_asked 0x94 (id ∷ [])
  unfolding command_asked say_ask command_typed
  read_says h k = rw (h, k)

-- nine numbers
module _ (code : ℕ) (l : List (Option Number)) (nine : length l ≡ 9) where
  pub nine_none : (code ≡ 0x90 → ⊥) → (code ≡ 0x92 → ⊥) → None ≡ line_asked code l
  unfolding command_asked say_ask
  nine_none n m = rw (nine, ne_eqb code 0x90 n, ne_eqb code 0x92 m, and-false (eqb code 0x93), and-false (eqb code 0x94))

  pub nine_signed : all_plain l ≡ false → None ≡ line_asked code l
  unfolding command_asked say_ask
  nine_signed h = rw (nine, h, and-false (eqb code 0x90), and-false (eqb code 0x92), and-false (eqb code 0x93), and-false (eqb code 0x94))

  module _ (a : all_plain l ≡ true) where
    pub nine_first : code ≡ 0x90 → line_given true (given_in (sizes_in l)) ≡ line_asked code l
    unfolding command_asked say_ask command_typed line_given given_in
    nine_first e = split (fields_typed (fields_asked l)) (λ k. rw (nine, e, a, k)) (λ k. rw (nine, e, a, k))

    pub nine_second : code ≡ 0x92 → line_given false (given_in (sizes_in l)) ≡ line_asked code l
    unfolding command_asked say_ask command_typed line_given given_in
    nine_second e = split (fields_typed (fields_asked l)) (λ k. rw (nine, e, a, k)) (λ k. rw (nine, e, a, k))

-- any other code or count
apart : (a b x : Bool) → (a && b) ≡ false → (b && (a && x)) ≡ false
apart true true x h = never refl h
apart true false x h = refl
apart false b x h = and-false b

pub none_says : (code : ℕ) (l : List (Option Number)) → (length l ≡ 0 → ⊥) → (length l ≡ 9 → ⊥) → (eqb (length l) 2 && eqb code 0x93) ≡ false
    → (eqb (length l) 1 && eqb code 0x94) ≡ false → None ≡ line_asked code l
unfolding command_asked say_ask
none_says code l n0 n9 w r =
    rw (ne_eqb (length l) 0 n0, ne_eqb (length l) 9 n9, and-false (eqb code 0x90), and-false (eqb code 0x92), apart (eqb (length l) 2) (eqb code 0x93) (is_plain (number_at l 0) && is_value (number_at l 1)) w, apart (eqb (length l) 1) (eqb code 0x94) (is_plain (number_at l 0)) r)
