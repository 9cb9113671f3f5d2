-- Whether an answer is without error is known by its second byte.
-- Assumes nothing.
use Prim.Native.Nat.{ℕ, suc, ◌≤◌, ◌<◌}
use native.Mathlib.Omega.{arith}
use mathlib.Core.Path.{◌≡◌, refl, ◌∙◌}
use mathlib.Core.Bool.{true, false}
use mathlib.Core.List.{List, [], ◌∷◌, ◌++◌}
use lib.Dec.{eqb}
use lib.ListN.{length, get_or, set}
use lib.Seq.{sets, get_or-set_other}
use borrow.Author.Tests.{lt-ltb}
use Rattle.rows.specs.Rows.{Clear}
use Rattle.rows.proofs.Laws.{clear_head}
use borrow.Author.Tests.{ltb-false}
use Rattle.crc.specs.Crc.{crc_of}
use Rattle.numbers.specs.Numbers.{high_first}
use Rattle.packets.specs.Answers.{with_crc, answer_of, error_answer}
use Rattle.packets.proofs.Laws.{length_of_answer}
use Rattle.rules.specs.World.{World, packet, answering, rows_of}
use Rattle.rules.specs.History.{second_is, succeeded, errored}

-- a run of stores leaves what stands before it
pub before-run : (vs l : List ℕ) (i k : ℕ) → k < i → get_or (sets l i vs) k 0 ≡ get_or l k 0
before-run [] l i k h = refl
before-run (v ∷ vs) l i k h = before-run vs (set l i v) (suc i) k (omega arith) ∙ get_or-set_other l i k v 0 (λ e. omega arith)

-- an answer in a room that holds it shows its second byte
second-shown : (room : List ℕ) (first second : ℕ) (body : List ℕ) → 260 ≤ length room
    → get_or (sets room 0 (answer_of first second body)) 1 0 ≡ second
unfolding answer_of with_crc
second-shown [] first second body h = absurd (omega arith)
second-shown (a ∷ []) first second body h = absurd (omega arith)
second-shown (a ∷ c ∷ room) first second body h = before-run (body ++ high_first 2 (crc_of (first ∷ second ∷ body))) (first ∷ second ∷ room) 2 1 (omega arith)

-- an answer's second byte, as the history reads it
pub second_is_lem : (k : ℕ) (room : List ℕ) (first second : ℕ) (body : List ℕ) → 260 ≤ length room
    → second_is k (answering room (answer_of first second body)).said (answering room (answer_of first second body)).bytes ≡ eqb second k
second_is_lem k room first second body h =
    let some : 0 < length (answer_of first second body) = omega (arith, length_of_answer first second body) in
    rw (second-shown room first second body h, lt-ltb 0 (length (answer_of first second body)) some)

-- an error answer is no success, and any other answer is one
pub error_fails : (room : List ℕ) (first n : ℕ) → 260 ≤ length room → succeeded (answering room (error_answer first n)) ≡ false
unfolding succeeded error_answer
error_fails room first n h = second_is_lem 0x01 room first 0x09 (n ∷ []) h

pub one_succeeds : (room : List ℕ) (first : ℕ) (body : List ℕ) → 260 ≤ length room → succeeded (answering room (answer_of first 0x01 body)) ≡ true
unfolding succeeded
one_succeeds room first body h = second_is_lem 0x01 room first 0x01 body h

pub one_errs_not : (room : List ℕ) (first : ℕ) (body : List ℕ) → 260 ≤ length room → errored (answering room (answer_of first 0x01 body)) ≡ false
unfolding errored
one_errs_not room first body h = second_is_lem 0x09 room first 0x01 body h

-- where no row of a packet holds, its room holds every answer
pub room_at : (w : World) (b room : List ℕ) → Clear (rows_of w (packet b room)) → 260 ≤ length room
unfolding rows_of
room_at w b room k = ltb-false (length room) 260 (clear_head k)
