-- The checks of a packet, each from the facts that lead to it.
use Prim.Native.Nat.{ℕ, ◌<◌, ◌≤◌}
use native.Mathlib.Omega.{arith}
use mathlib.Core.Path.{◌≡◌, refl}
use mathlib.Core.List.{List}
use mathlib.Core.Bool.{true, false, or-true}
use borrow.Author.Tests.{lt-ltb, le-ltb, eq-eqb, ne_eqb}
use lib.Dec.{eqb}
use lib.ListN.{length}
use Rattle.packets.specs.declared.Parsed.TheVariants.{Nothing, Error, Acknowledgement, Asked}
use Rattle.packets.specs.declared.codes.Code.{Code}
use Rattle.packets.specs.declared.codes.Code.TheVariants.{Initialise, Status, Update, Write, Read, Priority, Data, Shutdown}
use Rattle.packets.specs.Commands.{code_row, is_code, listed_in}
use Rattle.packets.specs.Codes.{code_number}
use Rattle.packets.specs.Reading.{first, second, crc_right, acknowledges, packet_read}

-- a code's byte is in the table
pub coded : (c : Code) → is_code (code_number c) ≡ true
unfolding code_number is_code listed_in
coded Initialise = refl
coded Status = refl
coded Update = refl
coded Write = refl
coded Read = refl
coded Priority = refl
coded Data = refl
coded Shutdown = refl

module _ (p : List ℕ) where
  -- check 1
  pub empty : length p ≡ 0 → packet_read p ≡ Nothing
  unfolding packet_read
  empty e = simp (eq-eqb (length p) 0 e)

  -- check 2: under 4 bytes, or CRC wrong
  pub short : 0 < length p → length p < 4 → packet_read p ≡ Error (first p) 0x01
  unfolding packet_read
  short n h = simp (ne_eqb (length p) 0 (λ e. omega arith), lt-ltb (length p) 4 h)

  pub damaged : 0 < length p → crc_right p ≡ false → packet_read p ≡ Error (first p) 0x01
  unfolding packet_read
  damaged n h = simp (ne_eqb (length p) 0 (λ e. omega arith), h, or-true)

  -- the rest is of a packet that passes check 2
  module _ (four : 4 ≤ length p) (right : crc_right p ≡ true) where
    -- check 3
    pub acknowledged : acknowledges p ≡ true → packet_read p ≡ Acknowledgement (first p) (eqb (second p) 0x01)
    unfolding packet_read
    acknowledged h = simp (ne_eqb (length p) 0 (λ e. omega arith), le-ltb (length p) 4 four, right, h)

    -- check 4
    pub unknown : acknowledges p ≡ false → is_code (first p) ≡ false → packet_read p ≡ Error (first p) 0x02
    unfolding packet_read
    unknown h k = simp (ne_eqb (length p) 0 (λ e. omega arith), le-ltb (length p) 4 four, right, h, k)

    -- check 5
    pub second_wrong : acknowledges p ≡ false → is_code (first p) ≡ true → (second p ≡ 0x01 → ⊥) → packet_read p ≡ Error (first p) 0x3C
    unfolding packet_read
    second_wrong h k e =
        simp (ne_eqb (length p) 0 (λ e. omega arith), le-ltb (length p) 4 four, right, h, k, ne_eqb (second p) 0x01 e)

    -- check 6
    pub length_wrong : acknowledges p ≡ false → is_code (first p) ≡ true → second p ≡ 0x01 → (length p ≡ (code_row (first p)).bytes → ⊥)
        → packet_read p ≡ Error (first p) 0x01
    unfolding packet_read
    length_wrong h k e l =
        simp (ne_eqb (length p) 0 (λ e. omega arith), le-ltb (length p) 4 four, right, h, k, eq-eqb (second p) 0x01 e, ne_eqb (length p) (code_row (first p)).bytes l)

    -- and otherwise the command
    pub asked : acknowledges p ≡ false → is_code (first p) ≡ true → second p ≡ 0x01 → length p ≡ (code_row (first p)).bytes
        → packet_read p ≡ Asked ((code_row (first p)).command p)
    unfolding packet_read
    asked h k e l =
        simp (ne_eqb (length p) 0 (λ e. omega arith), le-ltb (length p) 4 four, right, h, k, eq-eqb (second p) 0x01 e, eq-eqb (length p) (code_row (first p)).bytes l)

pub ruleset checks = (coded, empty, short, damaged, acknowledged, unknown, second_wrong, length_wrong, asked)
