-- The letter, the bytes and the newline, one behind the other.
use Rattle.std.proofs.Common.{rules, arith, ◌≡◌, ◌∷◌, [], length, length-append}
use Rattle.items.specs.Text.{spell}
use Rattle.items.proofs.Behind.{both, shortened}
use Rattle.items.proofs.Spelled.{none_line, some_line, spell-length}
use Rattle.items.proofs.output.Output.bytes_line.Goals as goal

pub returns-then-is_empty : goal.returns-then-is_empty
returns-then-is_empty c =
    let none : length c.args.bytes.now ≡ 0 = search rules in
    rw (none_line c.args.letter c.args.bytes.now none) (shortened _ (omega arith) c.append.ensures)

pub returns : goal.returns
returns c =
    let some : length c.args.bytes.now ≡ 0 → ⊥ = search rules in
    rw (some_line c.args.letter c.args.bytes.now some)
    (shortened _ (omega (arith, length-append (spell c.args.bytes.now) (10 ∷ []), spell-length c.args.bytes.now)) (both c.append-2.ensures (both c.items.ensures c.append-3.ensures)))
