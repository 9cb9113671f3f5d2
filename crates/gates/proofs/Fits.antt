-- What a call's rows leave to its effect, where none of them holds.
-- Assumes nothing.
use Prim.Native.Nat.{ℕ, ◌*◌, ◌≤◌, ◌<◌}
use mathlib.Core.Path.{◌≡◌}
use mathlib.Core.Bool.{true}
use mathlib.Core.List.{List, ◌∷◌}
use lib.Dec.{leb}
use lib.ListN.{length}
use borrow.Author.Tests.{leb-true, leb-false, eqb-true}
use Rattle.rows.specs.Rows.{Row, Clear, none, past}
use Rattle.rows.proofs.Bool.{and_left, and_right, not-false}
use Rattle.blocks.specs.declared.Store.{Store}
use Rattle.blocks.specs.Stores.{capacity_of, store_sized, sound_ring}
use Rattle.tables.specs.Bounds.{sound_words}
use Rattle.pipe.specs.Input.{sound_input}
use Rattle.pipe.specs.Output.{sound_output}
use Rattle.pipe.specs.Pipe.{sound_pipe}
use Rattle.pipe.proofs.Laws.{sound_in, sound_out}
use Rattle.frames.specs.Samples.{bounded_of}
use Rattle.rules.specs.declared.Pod.{Pod}
use Rattle.rules.specs.State.{ring_of, sound_pod}
use Rattle.rules.specs.Refusals.{state_row}
use Rattle.rules.specs.Families.{packet_out, pipe}
use Rattle.rules.specs.Calls.{put_rows, lone_rows, samples_rows}
use Rattle.rules.proofs.Inside.{pod_in, ring_in}

pub store_length : (s : Store) (l : List ℕ) → store_sized s l ≡ true → length l ≡ capacity_of s * 256
unfolding store_sized
store_length s l h = eqb-true _ _ h

-- the words of a sound pod are sound
pub words_sound : (p : Pod) → sound_pod p ≡ true → sound_words p.words ≡ true
words_sound p h = (pod_in p h).words

pub pipe_fits : (p : Pod) {rs : List Row} → Clear (state_row p ∷ rs)
    → ((p.pipe.input.gathered ≤ 7) × (p.pipe.input.timeouts ≤ 15)) × ((p.pipe.output.hand ≤ 8) × (p.pipe.output.timeouts ≤ 15))
unfolding sound_pipe
pipe_fits p (past ok k) =
    let h = (pod_in p (not-false ok)).pipe in
    let i = p.pipe.input in
    let o = p.pipe.output in
    (sound_in i (and_left (sound_input i) (sound_output o) h), sound_out o (and_right (sound_input i) (sound_output o) h))

pub out-fits : (b : List ℕ) (p : Pod) → Clear (lone_rows (pipe (packet_out b)) p) → length b ≡ 8
out-fits b p (past ok (past long k)) = eqb-true _ _ (not-false long)

pub samples_fit : (check : ℕ) (xs : List ℕ) (p : Pod) → Clear (samples_rows check xs p)
    → (length xs ≡ 128) × (bounded_of xs ≡ true) × (p.pipe.input.timeouts ≤ 15) × (p.pipe.output.timeouts ≤ 15) × (check ≤ 31)
samples_fit check xs p (past ok (past n (past within none))) =
    let inside = not-false within in
    let counts = pipe_fits p (past ok none) in
    (eqb-true _ _ (not-false n), and_left (bounded_of xs) (leb check 31) inside, counts.0.1, counts.1.1, leb-true _ _ (and_right (bounded_of xs) (leb check 31) inside))

pub put_fits : (s : Store) (b store : List ℕ) (p : Pod) → Clear (put_rows s b store p)
    → ((sound_ring (capacity_of s) (ring_of s p) ≡ true) × ((ring_of s p).waiting < capacity_of s)) × ((length store ≡ capacity_of s * 256) × (length b ≡ 256))
put_fits s b store p (past size (past ok (past long (past on (past room none))))) =
    ((ring_in (pod_in p (not-false ok)) s, leb-false _ _ room), (store_length s store (not-false size), eqb-true _ _ (not-false long)))

-- what a call's open gate leaves to its effect
pub ruleset fitting = (put_fits, samples_fit, pipe_fits, out-fits)
