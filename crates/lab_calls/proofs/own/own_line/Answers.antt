-- The line `V` is shown, and any other asks for what its text says.
use Rattle.std.proofs.Common.{arith, ◌≡◌, refl, sym, ◌∙◌, true, false, subst, Option}
use Rattle.std.specs.Prelude.{IfSome}
use Rattle.items.proofs.Behind.{renamed}
use Rattle.lab_sets.specs.Ranges.{in_range}
use Rattle.lab_sets.specs.declared.Change.{Change}
use Rattle.lab_lines.proofs.Inside.{inside}
use Rattle.lab_calls.specs.Own.{is_show, own_of}
use Rattle.lab_calls.proofs.own.own_line.Goals as goal

pub returns-then-is_show : goal.returns-then-is_show
unfolding own_of
returns-then-is_show c =
    let e : is_show c.args.text.now ≡ true = sym c.is_show.ensures ∙ c.if-is_show.true in
    record { pod = rw e refl; sizes = rw e refl; load = rw e refl; rest = refl; printed = rw e c.show.ensures }

pub asked-requires-clause-in_range : goal.asked-requires-clause-in_range
asked-requires-clause-in_range c = subst (λ (o : Option Change). IfSome o (λ (x : Change). in_range x ≡ true)) (sym c.change.ensures) (inside c.args.text.now)

pub returns : goal.returns
unfolding own_of
returns c =
    let e : is_show c.args.text.now ≡ false = sym c.is_show.ensures ∙ c.if-is_show.false in
    let a = rw c.change.ensures at c.asked.ensures in
    record { pod = rw e a.part; sizes = rw e a.sizes; load = rw e a.words; rest = refl; printed = rw e (renamed _ 1200 refl (omega arith) a.letter) }
