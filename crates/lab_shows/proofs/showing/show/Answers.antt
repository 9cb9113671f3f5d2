-- The letter, the numbers, the checks, the output half, and the kept list with the line's end.
use Rattle.std.proofs.Common.{arith, rules, ap, ◌≡◌, length, List, ℕ, ◌∷◌, ◌++◌}
use Rattle.items.proofs.Behind.{both, renamed}
use Rattle.lab_shows.specs.Shown.{spelled_words, front_numbers, back_numbers, shown_checks, shown_output, shown_list, shown_text, lent_of}
use Rattle.lab_shows.proofs.Spell.{in_front}
use Rattle.lab_shows.proofs.showing.show.Goals as goal

pub returns : goal.returns
unfolding shown_text
returns c =
    let p = c.args.pod.now in
    let k = c.all_checks in
    let n : length k.result ≡ 7 = search rules in
    let end : List ℕ = spelled_words (shown_checks p (lent_of c.args.lent.now)) ++ (shown_output p ++ shown_list p) in
    renamed _ 1200 (ap (λ (t : List ℕ). 86 ∷ t) (in_front (front_numbers p) (back_numbers p) end)) (omega arith)
    (both {m = 1} {n = 1199} c.append.ensures
    (both {m = 726} {n = 473} c.put_front.ensures
    (both {m = 358} {n = 115} c.put_back.ensures
    (both {m = 35} {n = 80} (renamed _ 35 (ap spelled_words k.ensures) (omega arith) c.put_words.ensures)
    (both {m = 47} {n = 33} c.put_output.ensures c.put_list.ensures)))))
