-- One number after another.
use native.Mathlib.Omega.{arith}
use mathlib.Core.Path.{◌≡◌, refl, sym, ap, ◌∙◌}
use mathlib.Core.Bool.{Bool, true, ◌&&◌}
use Prim.Native.Nat.{◌+◌}
use mathlib.Core.List.{map}
use borrow.Author.Rules.{rules}
use lib.ListN.{length, drop, length-map, drop_of_length-le}
use Rattle.aircraft_lines.specs.Asked.{all_plain, size_of}
use Rattle.aircraft_lines.proofs.Numbered.{nine_sizes, nine_stored, plain_on, size_on}
use Rattle.aircraft_lines.proofs.Said.{chosen_none, chosen_some}
use Rattle.aircraft_lines.proofs.fields.sizes.Goals as goal

pub loop-i-init : goal.loop-i-init
loop-i-init c =
    let long : length c.args.list ≡ 9 = search rules in
    (refl, nine_stored (map size_of c.args.list) (length-map c.args.list size_of ∙ long))

pub returns-in_err-sizes : goal.returns-in_err-sizes
returns-in_err-sizes c =
    let long : length c.args.list ≡ 9 = search rules in
    let l = c.loop-i in
    let none = plain_on c.args.list l.i (omega arith) ∙ ap (λ (b : Bool). b && all_plain (drop (l.i + 1) c.args.list)) (chosen_none _ _ c.in_err-sizes.ensures) in
    rw (c.from_residual.ensures, sym l.invariant.0 ∙ none)

pub loop-i-preserved : goal.loop-i-preserved
loop-i-preserved c =
    let long : length c.args.list ≡ 9 = search rules in
    let l = c.loop-i in
    let p = chosen_some _ _ _ c.in_ok-sizes.ensures in
    let on = plain_on c.args.list l.i (omega arith) ∙ ap (λ (b : Bool). b && all_plain (drop (l.i + 1) c.args.list)) p.0 in
    (sym on ∙ l.invariant.0, size_on l.sizes _ c.args.list l.i _ (omega arith) p.1 l.invariant.1)

pub returns : goal.returns
unfolding all_plain
returns c =
    let long : length c.args.list ≡ 9 = search rules in
    let l = c.loop-i in
    let none = drop_of_length-le c.args.list {i = l.i} (omega arith) in
    let all : all_plain c.args.list ≡ true = sym l.invariant.0 ∙ ap all_plain none in
    let sizes : l.sizes ≡ map size_of c.args.list = rw none at l.invariant.1 in
    rw (all, sizes, nine_sizes c.args.list long)
