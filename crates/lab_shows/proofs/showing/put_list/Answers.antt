-- The list, and the end of the line.
use Rattle.std.proofs.Common.{arith, rules, ◌≡◌, length, refl}
use Rattle.items.proofs.Behind.{both, renamed}
use Rattle.lab_shows.specs.Shown.{shown_list}
use Rattle.lab_shows.proofs.showing.put_list.Goals as goal

pub returns : goal.returns
unfolding shown_list
returns c =
    let n : length c.args.pod.now.params.missing ≡ 8 = search rules in
    both {m = 32} {n = 1} (renamed _ 32 refl (omega arith) c.put_numerals.ensures) c.append.ensures
