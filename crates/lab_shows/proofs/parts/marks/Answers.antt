-- The closure gives a mark as the definition does.
use Rattle.std.proofs.Common.{rules, false}
use Rattle.lab_shows.specs.Shown.{bit_of}
use Rattle.lab_shows.proofs.Mapped.{mapped}
use Rattle.lab_shows.proofs.parts.marks.Goals as goal

pub returns : goal.returns
returns c = mapped false bit_of (search rules) c.map.ensures.items (λ p q x y k. search rules)
