-- At each turn the asked ids that are left, stored from place n on, make the array the list.
use Rattle.std.proofs.Common.{◌≡◌, ◌+◌, ◌≤◌, length}
use Rattle.std.proofs.lemmas.List.Edits.{sets}
use Rattle.params.specs.Rules.{start_params}
use Rattle.params.proofs.Missing.{asked_from}
use Rattle.params.proofs.asked_ids.Given as goal

abbrev pub invariant-loop-i : goal.invariant-loop-i
invariant-loop-i l =
    record { room : l.n + length (asked_from l.i) ≤ 5; left : sets l.out l.n (asked_from l.i) ≡ start_params.missing }
