-- The bytes that an input holds, and the list that a packet sends.
use Prim.Native.Nat.{ℕ, ◌≤◌, ◌<◌}
use mathlib.Core.Path.{◌≡◌, refl}
use mathlib.Core.List.{List, [], ◌∷◌, ◌++◌}
use native.Mathlib.Omega.{arith}
use native.Mathlib.Numerals.{add-one}
use lib.ListN.{length, length-take, length-set}
use lib.Seq.{take-suc-set, take-append_seam}
use Rattle.pipe.specs.declared.Input.{Input}
use Rattle.pipe.specs.Input.{held_in, sent_packet, sent_bytes, empty_input, gathers}

-- an input as the code can hold it within the bounds: an array of eight, and at most 7 gathered
pub record Whole (i : Input) : Type 0 where
  pub long : length i.bytes ≡ 8
  pub few : i.gathered ≤ 7

-- as many bytes are held as are gathered
pub length_held : {i : Input} → Whole i → length (held_in i) ≡ i.gathered
unfolding held_in
length_held {i} w = let long = w.long in let few = w.few in rw length-take (omega arith)

-- a byte more is held behind the others
pub held-gathers : {i : Input} (b : ℕ) → Whole i → held_in (gathers i b) ≡ held_in i ++ (b ∷ [])
unfolding held_in gathers
held-gathers {i} b w =
    let inside : i.gathered < length i.bytes = omega (arith, w.long, w.few) in
    rw add-one (take-suc-set i.bytes i.gathered b inside)

-- an emptied input holds nothing
pub held_empty : (n : ℕ) → held_in (empty_input n) ≡ []
unfolding held_in empty_input
held_empty n = refl

-- a packet sends its list
pub listed : (xs : List ℕ) → sent_bytes (sent_packet xs) ≡ xs
unfolding sent_bytes sent_packet
listed xs = take-append_seam xs _

-- an emptied input is whole
pub whole_empty : (n : ℕ) → Whole (empty_input n)
unfolding empty_input
whole_empty n = record { long = refl; few = omega arith }

-- one of the first seven bytes keeps an input whole
pub whole_gathers : {i : Input} (b : ℕ) → i.gathered < 7 → Whole i → Whole (gathers i b)
unfolding gathers
whole_gathers {i} b l w = record { long = rw length-set w.long; few = omega arith }
