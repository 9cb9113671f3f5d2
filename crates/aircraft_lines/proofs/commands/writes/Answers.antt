-- By the form, and then by the types of the id and the value.
use native.Mathlib.Omega.{arith}
use mathlib.Core.Path.{◌≡◌, ap₂, ◌∙◌}
use mathlib.Core.Bool.{and-false}
use Prim.Native.Nat.{ℕ}
use lib.IntN.{ℤ}
use mir.Syntax.{w32}
use mir.Val.{to_z, of_z}
use Rattle.std.specs.Prelude.{Some}
use borrow.Author.Rules.{rules}
use borrow.Author.Tests.{lt-ltb, le-ltb}
use Rattle.packets.specs.declared.Command.TheVariants.{Write}
use Rattle.aircraft_lines.specs.declared.Line.TheVariants.{Send}
use Rattle.aircraft_lines.specs.Asked.{size_of, is_plain}
use Rattle.aircraft_lines.proofs.Said.{chosen_none, chosen_some, write_none, write_outside, write_says}
use Rattle.aircraft_lines.proofs.commands.writes.Goals as goal

pub returns-in_err-id : goal.returns-in_err-id
returns-in_err-id c = let h = chosen_none _ _ c.in_err-id.ensures in rw c.from_residual.ensures (write_none c.args.id c.args.v (rw h))

pub returns-in_err-v : goal.returns-in_err-v
returns-in_err-v c =
    rw (c.from_residual-in_err-v.ensures, c.in_err-v.was) (write_none c.args.id _ (and-false (is_plain c.args.id)))

pub returns-in-Ok-Some : goal.returns-in-Ok-Some
returns-in-Ok-Some c =
    let p = chosen_some _ _ _ c.in_ok-id.ensures in
    let i = c.in-Ok-Some in
    let q = chosen_some _ _ _ i.ensures' in
    let back : to_z w32 (of_z w32 i.value) ≡ i.value = search rules in
    let small = lt-ltb (size_of c.args.id) 256 (omega (arith, p.1, i.ensures.0)) in
    rw c.in_ok-v.was
    (ap₂ (λ (n : ℕ) (z : ℤ). Some (Send (Write n z))) (i.ensures.1 ∙ p.1) (back ∙ q.1)
    ∙ write_says c.args.id (Some c.in_ok-v.v) (rw p.0) (rw (small, q.0)))

pub returns-in_default : goal.returns-in_default
returns-in_default c =
    let p = chosen_some _ _ _ c.in_ok-id.ensures in
    let q = chosen_none _ _ c.in_default.ensures' in
    rw c.in_ok-v.was (write_outside c.args.id (Some c.in_ok-v.v) (rw p.0) (rw (q, and-false _)))

pub returns-in_default-2 : goal.returns-in_default-2
returns-in_default-2 c =
    let p = chosen_some _ _ _ c.in_ok-id.ensures in
    let large = rw c.in_default.is-0 at c.try_from.ensures in
    let h = le-ltb (size_of c.args.id) 256 (omega (arith, p.1, large)) in
    rw c.in_ok-v.was (write_outside c.args.id (Some c.in_ok-v.v) (rw p.0) (rw h))
