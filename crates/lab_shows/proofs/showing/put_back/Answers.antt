-- The numbers of the port, the address, and the numbers behind it.
use Rattle.std.proofs.Common.{arith, rules, ◌≡◌, ap, length, List, ℕ, [], ◌∷◌}
use Rattle.items.proofs.Behind.{both, renamed}
use Rattle.decimals.specs.Printing.{spelled, naturals}
use Rattle.lab_shows.specs.Shown.{port_numbers, address_number, last_numbers, back_numbers}
use Rattle.lab_shows.proofs.Spell.{three-spelled}
use Rattle.lab_shows.proofs.showing.put_back.Goals as goal

pub returns : goal.returns
unfolding back_numbers
returns c =
    let p = c.args.pod.now in
    let text : List ℕ → List ℕ = λ l. spelled (naturals l) in
    let n : length c.port_numbers.result ≡ 10 = search rules in
    renamed _ 358 (three-spelled (naturals (port_numbers p)) (address_number p.words.given ∷ []) (naturals (last_numbers p))) (omega arith)
    (both {m = 210} {n = 148} (renamed _ 210 (ap text c.port_numbers.ensures) (omega arith) c.put_numerals.ensures)
    (both {m = 22} {n = 126} c.put_address.ensures (renamed _ 126 (ap text c.last_numbers.ensures) (omega (arith, ap length c.last_numbers.ensures)) c.put_numerals-2.ensures)))
