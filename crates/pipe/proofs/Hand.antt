-- The bytes that an output has in hand.
use Prim.Native.Nat.{ℕ, zero, suc, ◌+◌, ◌-◌, ◌≤◌}
use mathlib.Core.Path.{◌≡◌, refl, sym, ap, ◌∙◌}
use mathlib.Core.List.{List, [], ◌∷◌}
use native.Mathlib.Omega.{arith}
use borrow.Author.Tests.{eqb-true, eqb-false}
use lib.Dec.{eqb}
use lib.ListN.{length, take, drop, get_or, length-drop, drop_of_length-le}
use lib.Seq.{drop-cons, drop-drop}
use Rattle.rows.proofs.Bool.{by-test}
use Rattle.pipe.specs.declared.Output.{Output}
use Rattle.pipe.specs.Input.{count_up}
use Rattle.pipe.specs.Output.{held_out, shown_out, fresh_output, handed, output_packet, output_taken, output_timeout}

-- an output as the code can hold it within the bounds: an array of eight, and at most 8 in hand
pub record WholeOut (o : Output) : Type 0 where
  pub long : length o.bytes ≡ 8
  pub few : o.hand ≤ 8

-- as many bytes are held as are in hand
pub length_out : {o : Output} → WholeOut o → length (held_out o) ≡ o.hand
unfolding held_out
length_out {o} w = let long = w.long in let few = w.few in rw length-drop (omega arith)

-- with none in hand none is held
pub none_out : (o : Output) → length o.bytes ≡ 8 → o.hand ≡ 0 → held_out o ≡ []
unfolding held_out
none_out o long e = drop_of_length-le o.bytes {i = 8 - o.hand} (omega arith)

-- with some, the byte being shown stands where the last ones begin
pub shown_first : (o : Output) → length o.bytes ≡ 8 → 1 ≤ o.hand → o.hand ≤ 8 → shown_out o ≡ get_or o.bytes (8 - o.hand) 0 ∷ []
unfolding held_out
shown_first o long some few = ap (λ (l : List ℕ). take 1 l) (drop-cons o.bytes (8 - o.hand) 0 (omega arith))

-- all of a packet of eight is held
pub held_packet : (o : Output) (b : List ℕ) → held_out (output_packet o b).output ≡ b
unfolding held_out output_packet
held_packet o b = refl

-- with none in hand a taken does nothing
pub taken_none : (o : Output) → o.hand ≡ 0 → output_taken o ≡ handed o
unfolding output_taken
taken_none o e =
    let same : o.hand - 1 ≡ o.hand = omega arith in
    ap (λ (n : ℕ). handed (record { bytes = o.bytes; hand = n; timeouts = o.timeouts })) same

-- one taken, the others are held
pub held-taken : {o : Output} → WholeOut o → held_out (output_taken o).output ≡ drop 1 (held_out o)
unfolding held_out output_taken
held-taken {o} w = sym (drop-drop 1 (8 - o.hand) o.bytes ∙ on o.hand w.few)
  where
    on : (n : ℕ) → n ≤ 8 → drop ((8 - n) + 1) o.bytes ≡ drop (8 - (n - 1)) o.bytes
    on zero h = drop_of_length-le o.bytes {i = 9} (omega (arith, w.long)) ∙ sym (drop_of_length-le o.bytes {i = 8} (omega (arith, w.long)))
    on (suc n) h = let same : (8 - suc n) + 1 ≡ 8 - (suc n - 1) = omega arith in ap (λ (k : ℕ). drop k o.bytes) same

-- what holds of both cases of a timeout holds of it
pub out_timeout_cases : (P : Output → Type 0) (o : Output) → (o.hand ≡ 0 → P o) → (1 ≤ o.hand → P (record { bytes = o.bytes; hand = 0; timeouts = count_up o.timeouts })) → P (output_timeout o)
unfolding output_timeout
out_timeout_cases P o f g = by-test P (eqb o.hand 0) (λ e. f (eqb-true o.hand 0 e)) (λ e. let some = eqb-false o.hand 0 e in g (omega (arith, some)))

-- each call keeps an output whole
pub whole_fresh : WholeOut fresh_output
unfolding fresh_output
whole_fresh = record { long = refl; few = omega arith }

pub whole_packet : (o : Output) (b : List ℕ) → length b ≡ 8 → WholeOut (output_packet o b).output
unfolding output_packet
whole_packet o b h = record { long = h; few = omega arith }

pub whole_taken : {o : Output} → WholeOut o → WholeOut (output_taken o).output
unfolding output_taken
whole_taken {o} w = record { long = w.long; few = omega (arith, w.few) }

pub whole_timeout : {o : Output} → WholeOut o → WholeOut (output_timeout o)
whole_timeout {o} w = out_timeout_cases WholeOut o (λ e. w) (λ e. record { long = w.long; few = omega arith })
