-- The room while an answer is written: two bytes, the body into the part from byte 2 on, the CRC behind it. One law serves every answer.
use Prim.Native.Nat.{ℕ, ◌+◌, ◌≤◌, ◌-◌}
use native.Mathlib.Omega.{arith}
use native.Mathlib.Nat.{zero-add}
use mathlib.Core.Path.{◌≡◌, ap, ◌∙◌}
use mathlib.Core.List.{List, [], ◌∷◌, ◌++◌}
use lib.ListN.{length, take, drop, length-append}
use lib.Seq.{sets, sets-eq, length-sets, take-append_seam}
use Rattle.crc.specs.Crc.{crc_of}
use Rattle.numbers.specs.Numbers.{high_first}
use Rattle.packets.specs.Answers.{with_crc, answer_of, Written}
use Rattle.numbers.proofs.Stores.{sets_append, lent}
use Rattle.numbers.proofs.Digits.{high_first-length}

-- the CRC of what stands there, written behind it
closed_there : (room head : List ℕ) (end : ℕ) → end ≡ length head → end ≤ length room
    → sets (sets room 0 head) end (high_first 2 (crc_of (take end (sets room 0 head)))) ≡ sets room 0 (with_crc head)
unfolding with_crc
closed_there room head end e h =
    let whole : sets room 0 head ≡ head ++ drop (0 + length head) room = sets-eq head room 0 (omega arith) in
    let there : take end (sets room 0 head) ≡ head = rw (whole, e, take-append_seam) in
    rw (there, sets_append room 0 head, zero-add, e)

-- an answer has four bytes and its body
pub answer-length : (f s : ℕ) (body : List ℕ) → length (answer_of f s body) ≡ 4 + length body
unfolding answer_of with_crc
answer-length f s body =
    length-append (f ∷ s ∷ body) (high_first 2 (crc_of (f ∷ s ∷ body)))
    ∙ omega (arith, high_first-length 2 (crc_of (f ∷ s ∷ body)))

-- an answer without a body, once it is written
pub bare-answered : (room : List ℕ) (f s : ℕ) (two room' : List ℕ) (n : ℕ) → two ≡ sets room 0 (f ∷ s ∷ [])
    → (room' ≡ sets two 2 (high_first 2 (crc_of (take 2 two)))) × (n ≡ 2 + 2) → 2 ≤ length room → Written (answer_of f s []) room room' n
unfolding answer_of
bare-answered room f s two room' n et c h =
    record {
      room = c.0 ∙ rw et (closed_there room (f ∷ s ∷ []) 2 (omega arith) h);
      count = omega (arith, c.1, answer-length f s []);
    }

-- every answer, once it is written. two is the room with its first two bytes, ys its part from byte 2 on with the body
pub answered : (room : List ℕ) (f s : ℕ) (body two ys room' : List ℕ) (k end n : ℕ)
    → two ≡ sets room 0 (f ∷ s ∷ []) → k ≡ length two - 2 → ys ≡ sets (take k (drop 2 two)) 0 body
    → (room' ≡ sets (take 2 two ++ (ys ++ drop k (drop 2 two))) end (high_first 2 (crc_of (take end (take 2 two ++ (ys ++ drop k (drop 2 two)))))))
    × (n ≡ end + 2)
    → end ≡ 2 + length body → end ≤ length room → Written (answer_of f s body) room room' n
unfolding answer_of
answered room f s body two ys room' k end n et ek y c ee h =
    record {
      room = c.0 ∙ rw (lent two ys body 2 k (omega (arith, ap length et, length-sets room 0 (f ∷ s ∷ []))) ek y, et) (closed_there room (f ∷ s ∷ body) end (omega arith) h);
      count = omega (arith, c.1, answer-length f s body);
    }
