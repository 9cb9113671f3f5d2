-- At each turn what is left of the list but for the id, stored from place n on, makes the array the list.
use Rattle.std.proofs.Common.{◌≡◌, ◌≤◌}
use Rattle.std.proofs.lemmas.List.Edits.{sets}
use Rattle.params.specs.Rules.{struck}
use Rattle.params.proofs.Missing.{passing, other}
use Rattle.params.proofs.kept.struck.Given as goal

abbrev pub invariant-loop-k : goal.invariant-loop-k
invariant-loop-k l =
    record { within : l.n ≤ l.k-index; left : sets l.out l.n (passing (other l.id) l.fn.list l.k-index) ≡ struck l.id l.fn.list }
