-- Which answers are right, by the answer that is due, and how each is read.
use Prim.Native.Nat.{ℕ, ◌≤◌, ◌<◌}
use native.Mathlib.Omega.{arith}
use mathlib.Core.Path.{◌≡◌, refl, ap, ◌∙◌}
use mathlib.Core.Bool.{true, false, not, ◌&&◌, ◌||◌}
use mathlib.Core.List.{List}
use borrow.Author.Tests.{ltb-true, ltb-false, ne_eqb, eqb-true, eqb-false, leb-true}
use lib.Dec.{ltb, leb, eqb}
use lib.ListN.{length}
use Rattle.rows.specs.Rows.{refused, gave}
use Rattle.rows.proofs.Bool.{split, never, and_left, and_right, and-false}
use Rattle.packets.specs.Commands.{find_in, code_row, is_code}
use Rattle.packets.specs.Reading.{first, second, third, crc_right}
use Rattle.packets.proofs.Rows.{last_code, of_code}
use Rattle.airframe.specs.Building.{refusal_number}
use Rattle.airframe.specs.Reading.{done, failed, success_right, answer_right, body_meant, read_as}

-- no answer that is due is shorter than 5 bytes
pub five_due : (code : ℕ) → is_code code ≡ true → 5 ≤ (code_row code).answer
five_due code h = leb-true 5 _ (of_code (λ r. leb 5 r.answer ≡ true) code (refl, (refl, (refl, (refl, (refl, (refl, (refl, (refl, tt)))))))) h)

-- and those of 5 bytes are the type 1 commands'
pub short_due : (code : ℕ) → is_code code ≡ true → eqb (code_row code).kind 2 ≡ not (eqb (code_row code).answer 5)
short_due code h = of_code (λ r. eqb r.kind 2 ≡ not (eqb r.answer 5)) code (refl, (refl, (refl, (refl, (refl, (refl, (refl, (refl, tt)))))))) h

module _ (code : ℕ) (a : List ℕ) where
  -- the tests, by the number of bytes that is due
  pub tested : is_code code ≡ true
      → answer_right code a ≡ crc_right a && eqb (first a) code
      && (eqb (second a) 0x09 && eqb (length a) 5
      || eqb (second a) 0x01 && eqb (length a) (code_row code).answer && (not (eqb (code_row code).answer 5) || eqb (third a) 0x7E))
  unfolding answer_right success_right
  tested h = rw (h, short_due code h)

  -- under 5 bytes
  pub cut_short : length a < 5 → answer_right code a ≡ false
  unfolding answer_right success_right
  cut_short h =
      split (is_code code)
      (λ k.
      let due = five_due code k in
      simp (ne_eqb (length a) 5 (λ e. omega arith), ne_eqb (length a) (code_row code).answer (λ e. omega arith), and-false))
      (λ k. rw k)

  -- a wrong answer
  pub unusable : answer_right code a ≡ false → read_as code a ≡ refused 23
  unfolding read_as refusal_number
  unusable e = rw e

  -- and so is any to a byte that is no code
  pub no_code : is_code code ≡ false → read_as code a ≡ refused 23
  unfolding answer_right
  no_code e = unusable (rw e)

  -- the rest is of a right answer
  module _ (right : answer_right code a ≡ true) where
    pub long : 5 ≤ length a
    long = split (ltb (length a) 5) (λ h. never right (cut_short (ltb-true (length a) 5 h))) (λ h. ltb-false (length a) 5 h)

    pub coded : is_code code ≡ true
    unfolding answer_right
    coded = and_left (is_code code) _ (and_left (is_code code && crc_right a) _ (and_left (is_code code && crc_right a && eqb (first a) code) _ right))

    -- an error
    pub failure : eqb (second a) 0x09 ≡ true → read_as code a ≡ gave (failed (third a))
    unfolding read_as
    failure e = rw (right, e)

    -- a success
    module _ (other : eqb (second a) 0x09 ≡ false) where
      pub whole : (k : ℕ) → code ≡ k → length a ≡ (code_row k).answer
      unfolding answer_right success_right
      whole k e =
          let form : success_right code a ≡ true = and_right (is_code code && crc_right a && eqb (first a) code) (success_right code a) (rw other at right) in
          eqb-true _ _ (and_right (eqb (second a) 0x01) _ (and_left (eqb (second a) 0x01 && eqb (length a) (code_row code).answer) _ form))
          ∙ ap (λ (j : ℕ). (code_row j).answer) e

      pub success : (k : ℕ) → code ≡ k → read_as code a ≡ gave (body_meant ((code_row k).command a) a)
      unfolding read_as
      success k e = rw (right, other, e)

      -- of a command that shows nothing
      pub plain : (code ≡ 0x91 → ⊥) → (code ≡ 0x94 → ⊥) → (code ≡ 0x95 → ⊥) → (code ≡ 0x96 → ⊥) → read_as code a ≡ gave done
      unfolding code_row find_in body_meant
      plain n p q r =
          split (eqb code 0x90) (λ e. success 0x90 (eqb-true code 0x90 e))
          (λ z. split (eqb code 0x92) (λ e. success 0x92 (eqb-true code 0x92 e))
          (λ t. split (eqb code 0x93) (λ e. success 0x93 (eqb-true code 0x93 e))
          (λ w. success 0x9F (last_code code coded (eqb-false code 0x90 z) n (eqb-false code 0x92 t) (eqb-false code 0x93 w) p q r))))
