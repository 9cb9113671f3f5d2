-- What a gate says of the rows of its call, whatever it gives where none holds.
-- Assumes nothing.
use Rattle.std.specs.Prelude.{List, Result, Ok, Err}
use Rattle.rows.specs.Rows.{Row, First, Clear}
use Rattle.rules.specs.declared.Refusal.{Refusal}
use Rattle.rules.specs.Refusals.{refusal_number}

abbrev pub Gated : {A : Type 0} → Result A Refusal → List Row → Type 0
Gated (Ok x) rs = Clear rs
Gated (Err why) rs = First (refusal_number why) rs
