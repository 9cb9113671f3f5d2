-- A text behind what an output has gathered, where nothing is said of whose run it has afterwards.
-- Assumes nothing.
use Rattle.std.specs.Prelude.{ℕ, ◌+◌, ◌≤◌, ◌≡◌, List, length}
use Rattle.std.proofs.lemmas.List.Edits.{sets}
use Rattle.items.specs.declared.output.Output.{Output}

-- a text written at a place: the characters, and the place behind them, with so many characters at the most
pub record Added (text : List ℕ) (most : ℕ) (before after : Output) : Type 0 where
  pub characters : after.out.now ≡ sets before.out.now before.at text
  pub place : after.at ≡ before.at + length text
  pub short : length text ≤ most
