-- What holds of the two frames.
use Prim.Native.Nat.{ℕ, ◌^◌, ◌≤◌, ◌<◌}
use mathlib.Core.Path.{◌≡◌, refl, sym, ◌∙◌}
use mathlib.Core.Logic.{◌≢◌}
use mathlib.Core.Bool.{Bool, true, false, cond}
use mathlib.Core.List.{List}
use native.Mathlib.Omega.{arith}
use borrow.Author.Rules.{rules}
use lib.ListN.{get_or}
use Rattle.pipe.specs.declared.Pipe.{Pipe}
use Rattle.pipe.specs.Input.{gathering_of}
use Rattle.pipe.specs.Output.{busy_of}
use Rattle.frames.specs.Samples.{average_of, averages_of, bounded_of}
use Rattle.frames.specs.Fields.{placed, frame}
use Rattle.frames.proofs.Shape.{channel_at, disjoint, tiles, Each, ReadBack}
use Rattle.frames.specs.Layout.{lines03, lines47, frames_of}
use Rattle.frames.proofs.Bytes.{bytes_03, bytes_47}
use Rattle.frames.proofs.Means.{average_fits, averages_at}

flag_fits : (f : Bool) → cond f 1 0 < 2
flag_fits true = omega arith
flag_fits false = omega arith

module _ (a : List ℕ) (p : Pipe) (on : Bool) (check : ℕ) where
  -- no field of AN03 overlaps another
  pub disjoint_03 : disjoint (lines03 a p on check) ≡ true
  unfolding lines03
  disjoint_03 = refl

  -- the fields of AN03 take up its 64 bits one after the other
  pub tiles_03 : tiles 0 8 (lines03 a p on check) ≡ true
  unfolding lines03
  tiles_03 = refl

  -- each field of AN03 can be read back from the frame
  pub read_back_03 : p.input.timeouts ≤ 15 → p.output.timeouts ≤ 15 → check ≤ 31 → Each (ReadBack (frame (lines03 a p on check))) (lines03 a p on check)
  unfolding lines03 frame placed
  read_back_03 t o c =
      let gathering = flag_fits (gathering_of p.input) in
      let busy = flag_fits (busy_of p.output) in
      let awake = flag_fits on in
      search rules

module _ (a : List ℕ) where
  -- no field of AN47 overlaps another
  pub disjoint_47 : disjoint (lines47 a) ≡ true
  unfolding lines47
  disjoint_47 = refl

  -- the fields of AN47 take up its 64 bits one after the other
  pub tiles_47 : tiles 0 8 (lines47 a) ≡ true
  unfolding lines47
  tiles_47 = refl

  -- each field of AN47 can be read back from the frame
  pub read_back_47 : Each (ReadBack (frame (lines47 a))) (lines47 a)
  unfolding lines47 frame placed
  read_back_47 = search rules

module _ (n : ℕ) (xs : List ℕ) (p : Pipe) (on : Bool) (check : ℕ) (h : bounded_of xs ≡ true) where
  known : (c : ℕ) → c < 8 → (get_or (averages_of n xs) c 0 ≡ average_of n xs c) × (average_of n xs c < 2 ^ 10)
  known c l = (averages_at n xs c l, average_fits n xs c h)

  -- AN03 shows the averages of channels 1 to 3
  pub shown_03 : (channel_at (frames_of n xs p on check).an03 2 ≡ average_of n xs 1) × (channel_at (frames_of n xs p on check).an03 4 ≡ average_of n xs 2) × (channel_at (frames_of n xs p on check).an03 6 ≡ average_of n xs 3)
  unfolding frames_of channel_at
  shown_03 =
      let one = known 1 (omega arith) in
      let two = known 2 (omega arith) in
      let three = known 3 (omega arith) in
      rw (bytes_03 (averages_of n xs) p on check) (omega arith, omega arith, omega arith)

  -- AN47 shows the averages of channels 5 to 7
  pub shown_47 : (channel_at (frames_of n xs p on check).an47 2 ≡ average_of n xs 5) × (channel_at (frames_of n xs p on check).an47 4 ≡ average_of n xs 6) × (channel_at (frames_of n xs p on check).an47 6 ≡ average_of n xs 7)
  unfolding frames_of channel_at
  shown_47 =
      let five = known 5 (omega arith) in
      let six = known 6 (omega arith) in
      let seven = known 7 (omega arith) in
      rw (bytes_47 (averages_of n xs)) (omega arith, omega arith, omega arith)

-- channels 0 and 4 are averaged and not sent: frames of samples that differ in them alone are equal
pub unsent : (n : ℕ) (xs ys : List ℕ) (p : Pipe) (on : Bool) (check : ℕ) → ((c : ℕ) → c ≢ 0 → c ≢ 4 → average_of n xs c ≡ average_of n ys c) → frames_of n xs p on check ≡ frames_of n ys p on check
unfolding frames_of
unsent n xs ys p on check same =
    rw (bytes_03 (averages_of n xs) p on check, bytes_03 (averages_of n ys) p on check, bytes_47 (averages_of n xs), bytes_47 (averages_of n ys))
    (rw (
      sent 1 (omega arith) (λ e. omega arith) (λ e. omega arith),
      sent 2 (omega arith) (λ e. omega arith) (λ e. omega arith),
      sent 3 (omega arith) (λ e. omega arith) (λ e. omega arith),
      sent 5 (omega arith) (λ e. omega arith) (λ e. omega arith),
      sent 6 (omega arith) (λ e. omega arith) (λ e. omega arith),
      sent 7 (omega arith) (λ e. omega arith) (λ e. omega arith),
    ))
  where
    sent : (c : ℕ) → c < 8 → c ≢ 0 → c ≢ 4 → get_or (averages_of n xs) c 0 ≡ get_or (averages_of n ys) c 0
    sent c l y z = averages_at n xs c l ∙ same c y z ∙ sym (averages_at n ys c l)
