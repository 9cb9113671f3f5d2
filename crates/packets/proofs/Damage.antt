-- A right CRC, and one byte replaced by another.
use Prim.Native.Nat.{ℕ, suc, ◌≤◌, ◌<◌, ◌-◌}
use native.Mathlib.Omega.{arith}
use native.Mathlib.Numerals.{add-one}
use mathlib.Core.Path.{◌≡◌, sym, ◌∙◌}
use mathlib.Core.List.{List, [], ◌∷◌}
use mathlib.Core.Bool.{true, false}
use borrow.Author.Tests.{eqb-true}
use lib.ListN.{length, get_or, set, take, take-append-drop, drop_of_length-le}
use lib.Seq.{drop-cons}
use Rattle.crc.specs.Crc.{crc_of}
use Rattle.crc.proofs.Register.{from-none}
use Rattle.crc.proofs.Damage.{Closed, undamaged}
use Rattle.numbers.specs.Numbers.{high_first, number_of, number_at}
use Rattle.numbers.proofs.Digits.{two_number}
use Rattle.numbers.proofs.Below.{Bytes, cons_bytes, append_bytes, set_bytes, number-bytes}
use Rattle.packets.specs.Reading.{crc_right}
use Rattle.packets.specs.Answers.{with_crc, answer_of}
use Rattle.rows.proofs.Bool.{split}

-- what it says, as an equation
says : (p : List ℕ) → crc_right p ≡ true → crc_of (take (length p - 2) p) ≡ number_at p (length p - 2) 2
unfolding crc_right
says p = eqb-true (crc_of (take (length p - 2) p)) (number_at p (length p - 2) 2)

-- fewer than two bytes stand for a number below 256, and the CRC of none is 65535
two_bytes : (p : List ℕ) → Bytes p → crc_right p ≡ true → 2 ≤ length p
unfolding number_at number_of crc_of
two_bytes [] f h = absurd (omega (arith, says [] h, from-none 65535))
two_bytes (x ∷ []) f h = absurd (omega (arith, says (x ∷ []) h, from-none 65535, f 0))
two_bytes (x ∷ y ∷ p) f h = omega arith

-- so it is a right CRC as `crc` has it
right_closed : (p : List ℕ) → Bytes p → crc_right p ≡ true → Closed p
right_closed p f h =
    let two = two_bytes p f h in
    let n = length p - 2 in
    record {
      front = take n p;
      high = get_or p n 0;
      low = get_or p (suc n) 0;
      bytes = (f n, f (suc n));
      whole =
          sym (take-append-drop n p)
          ∙ rw (drop-cons p n 0 (omega arith), drop-cons p (suc n) 0 (omega arith), drop_of_length-le p {i = suc (suc n)} (omega arith));
      right = says p h ∙ two_number p n (omega arith) ∙ rw add-one;
    }

-- with one byte replaced by another a right CRC is wrong, whichever byte it is
pub damaged_wrong : (p : List ℕ) (k b : ℕ) → Bytes p → crc_right p ≡ true → k < length p → b < 256
    → (b ≡ get_or p k 0 → ⊥) → crc_right (set p k b) ≡ false
damaged_wrong p k b f r h new other =
    split (crc_right (set p k b))
    (λ e. absurd (other (undamaged p k b h (f k) new (right_closed p f r) (right_closed (set p k b) (set_bytes p k b f new) e))))
    (λ e. e)

-- an answer whose body is bytes is bytes
pub answer-bytes : (f s : ℕ) (body : List ℕ) → f < 256 → s < 256 → Bytes body → Bytes (answer_of f s body)
unfolding answer_of with_crc
answer-bytes f s body h k b =
    append_bytes (f ∷ s ∷ body) (high_first 2 (crc_of (f ∷ s ∷ body))) (cons_bytes f (s ∷ body) h (cons_bytes s body k b)) (number-bytes 2 (crc_of (f ∷ s ∷ body)))
