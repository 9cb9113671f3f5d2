-- The first numbers, the values and the marks.
use Rattle.std.proofs.Common.{arith, rules, ap, map, length, ◌≡◌, List, ℕ}
use Rattle.std.proofs.lemmas.List.{map-id}
use Rattle.items.proofs.Behind.{both, renamed}
use Rattle.decimals.specs.Printing.{spelled, naturals}
use Rattle.lab_shows.specs.Shown.{bit_of, first_numbers, front_numbers}
use Rattle.lab_shows.proofs.Spell.{three-spelled}
use Rattle.lab_shows.proofs.showing.put_front.Goals as goal

pub returns : goal.returns
unfolding front_numbers
returns c =
    let p = c.args.pod.now in
    let text : List ℕ → List ℕ = λ l. spelled (naturals l) in
    let n : length c.marks.result ≡ 12 = search rules in
    let m : length p.params.values ≡ 12 = search rules in
    renamed _ 726 (three-spelled (naturals (first_numbers p)) p.params.values (naturals (map bit_of p.params.written))) (omega arith)
    (both {m = 210} {n = 516} (renamed _ 210 (ap text c.first_numbers.ensures) (omega (arith, ap length c.first_numbers.ensures)) c.put_numerals.ensures)
    (both {m = 264} {n = 252} (renamed _ 264 (ap spelled (map-id p.params.values)) (omega arith) c.put_numerals-2.ensures)
    (renamed _ 252 (ap text c.marks.ensures) (omega arith) c.put_numerals-3.ensures)))
