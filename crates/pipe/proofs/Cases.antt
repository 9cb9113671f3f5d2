-- What each call gives, case by case.
use Prim.Native.Nat.{ℕ, ◌≤◌, ◌<◌}
use mathlib.Core.Path.{◌≡◌}
use mathlib.Core.List.{[], ◌∷◌, ◌++◌}
use native.Mathlib.Omega.{arith}
use borrow.Author.Tests.{lt-ltb, le-ltb, eq-eqb, ne_eqb, ltb-true, ltb-false, eqb-true, eqb-false}
use lib.Dec.{ltb, eqb}
use lib.ListN.{length, take, set}
use lib.Seq.{take-suc-set}
use Rattle.rows.proofs.Bool.{by-test}
use Rattle.pipe.specs.declared.Input.{Input}
use Rattle.pipe.specs.declared.Piped.{Piped}
use Rattle.pipe.specs.Input.{held_in, piped, empty_input, gathers, pipe_byte, count_up, pipe_timeout}

-- one of the first seven bytes gathers, and nothing is sent
pub byte_gathers : (i : Input) (b : ℕ) → i.gathered < 7 → pipe_byte i b ≡ piped [] (gathers i b)
unfolding pipe_byte
byte_gathers i b h = simp (lt-ltb i.gathered 7 h)

-- the eighth sends all eight, and nothing stays gathered
pub byte_sends : (i : Input) (b : ℕ) → 7 ≤ i.gathered → i.gathered ≤ 7 → length i.bytes ≡ 8
    → pipe_byte i b ≡ piped (take 8 (set i.bytes i.gathered b)) (empty_input i.timeouts)
unfolding pipe_byte held_in
byte_sends i b h k long =
    let last : i.gathered ≡ 7 = omega arith in
    let inside : 7 < length i.bytes = omega arith in
    let all : take 8 (set i.bytes 7 b) ≡ take 7 i.bytes ++ (b ∷ []) = take-suc-set i.bytes 7 b inside in
    simp (le-ltb i.gathered 7 h) (rw (last, all))

-- a timeout with none gathered does nothing
pub timeout_idle : (i : Input) → i.gathered ≡ 0 → pipe_timeout i ≡ piped [] i
unfolding pipe_timeout
timeout_idle i h = simp (eq-eqb i.gathered 0 h)

-- a timeout with some gathered sends them, counts, and nothing stays gathered
pub timeout_sends : (i : Input) → 1 ≤ i.gathered → pipe_timeout i ≡ piped (held_in i) (empty_input (count_up i.timeouts))
unfolding pipe_timeout
timeout_sends i h = simp (ne_eqb i.gathered 0 (λ e. omega arith))

-- what holds of both cases of a byte holds of it
pub byte_cases : (P : Piped → Type 0) (i : Input) (b : ℕ) → (i.gathered < 7 → P (piped [] (gathers i b))) → (7 ≤ i.gathered → P (piped (held_in i ++ (b ∷ [])) (empty_input i.timeouts))) → P (pipe_byte i b)
unfolding pipe_byte
byte_cases P i b f g = by-test P (ltb i.gathered 7) (λ e. f (ltb-true i.gathered 7 e)) (λ e. g (ltb-false i.gathered 7 e))

-- what holds of both cases of a timeout holds of it
pub timeout_cases : (P : Piped → Type 0) (i : Input) → (i.gathered ≡ 0 → P (piped [] i)) → (1 ≤ i.gathered → P (piped (held_in i) (empty_input (count_up i.timeouts)))) → P (pipe_timeout i)
unfolding pipe_timeout
timeout_cases P i f g =
    by-test P (eqb i.gathered 0) (λ e. f (eqb-true i.gathered 0 e)) (λ e. let some = eqb-false i.gathered 0 e in g (omega (arith, some)))
