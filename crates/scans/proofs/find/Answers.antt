-- `scans::find`: what `position` gives of the part, found or not.
use Rattle.std.proofs.Common.{eqb, arith, tests, rules}
use Rattle.std.proofs.lemmas.Iterator.{YieldsList-from_slice}
use Rattle.std.proofs.lemmas.Iterator.Search.{position_from_yields_List}
use Rattle.scans.proofs.Places.{found, nowhere}
use Rattle.scans.proofs.find.Goals as goal

pub returns-in-Some : goal.returns-in-Some
returns-in-Some c =
    let first = position_from_yields_List (λ x. eqb x c.args.b) _ _ c.position.result c.position.ensures.ran (YieldsList-from_slice _ c.iter.ensures.rest) (λ x b q k. search (rules, tests)) in
    omega (arith, found c.args.b c.args.from c.args.to c.in-Some.k c.args.text.now c.position.result (omega arith) first c.in-Some.is)

pub returns-in-None : goal.returns-in-None
returns-in-None c =
    let first = position_from_yields_List (λ x. eqb x c.args.b) _ _ c.position.result c.position.ensures.ran (YieldsList-from_slice _ c.iter.ensures.rest) (λ x b q k. search (rules, tests)) in
    nowhere _ _ _ _ _ (omega arith) (omega arith) first c.in-None.is
