-- Each byte's item goes behind those before it.
use Rattle.std.proofs.Common.{arith, ap, length, subst, List, ℕ, ◌∷◌, get_or, []}
use Rattle.hexes.specs.Digits.{byte_digits}
use Rattle.items.specs.Output.{Written}
use Rattle.items.proofs.Behind.{one_more, whole}
use Rattle.items.proofs.Spelled.{spell_on, spell_end, spell-length}
use Rattle.items.proofs.output.Output.items.Goals as goal

pub append-requires : goal.append-requires
append-requires c =
    let bs = c.args.bytes.now in
    let on = spell_on bs c.loop-b.b-index (omega arith) in
    omega (arith, c.loop-b.invariant.place, c.loop-b.invariant.room, spell-length bs, ap length on)

pub loop-b-preserved : goal.loop-b-preserved
loop-b-preserved c =
    let bs = c.args.bytes.now in
    let item : Written (32 ∷ byte_digits (get_or bs c.loop-b.b-index 0)) 3 c.loop-b.self c.append.new.self = subst (λ (d : List ℕ). Written (32 ∷ get_or d 0 0 ∷ get_or d 1 0 ∷ []) 3 c.loop-b.self c.append.new.self) c.byte.ensures c.append.ensures in
    one_more _ _ (spell_on bs c.loop-b.b-index (omega arith)) (omega arith) c.loop-b.invariant item

pub returns : goal.returns
returns c =
    whole _ (spell_end c.args.bytes.now c.loop-b.b-index (omega arith)) (omega arith) c.loop-b.invariant
