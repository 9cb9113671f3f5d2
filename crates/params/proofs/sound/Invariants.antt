-- At each turn the flag and the pairs that are left decide together what all of them decide.
use Rattle.std.proofs.Common.{◌≡◌, ◌&&◌, length}
use Rattle.std.specs.Slice.Iter.{iter_rest}
use Rattle.params.specs.Rows.{param_rows}
use Rattle.params.specs.Rules.{in_rows}
use Rattle.params.proofs.sound.Given as goal

abbrev pub invariant-loop-row : goal.invariant-loop-row
invariant-loop-row l =
    let rows = iter_rest l.row-iterator.a in
    let values = iter_rest l.row-iterator.b in
    record { as_long : length rows ≡ length values; judged : l.ok && in_rows rows values ≡ in_rows param_rows l.p.values }
