-- A part of an answer is at most so long.
-- Assumes nothing.
use Prim.Native.Nat.{ℕ, ◌≤◌}
use native.Mathlib.Omega.{arith}
use mathlib.Core.List.{List}
use lib.ListN.{length, drop, length-take}
use Rattle.airframe.specs.Reading.{block_in, ids_in}

pub few_ids : (a : List ℕ) → length (ids_in a) ≤ 8
unfolding ids_in
few_ids a = rw (length-take 8 (drop 12 a)) (omega arith)

pub few_block : (a : List ℕ) → length (block_in a) ≤ 256
unfolding block_in
few_block a = rw (length-take 256 (drop 2 a)) (omega arith)
