-- The word, the id and the value.
use native.Mathlib.Omega.{arith}
use borrow.Author.Rules.{rules}
use mathlib.Core.Path.{◌≡◌}
use mir.Syntax.{w32}
use mir.Val.{to_z, of_z}
use Rattle.items.proofs.Behind.{both, renamed}
use Rattle.aircraft_answers.proofs.Texts.{value_text}
use Rattle.aircraft_answers.proofs.meanings.put_value.Goals as goal

pub returns : goal.returns
returns c =
    let a = c.args in
    let back : to_z w32 (of_z w32 a.v) ≡ a.v = search rules in
    renamed _ 49 (value_text a.id a.v) (omega arith) (both c.append.ensures (both c.put_numerals.ensures (rw back at c.put_one.ensures)))
