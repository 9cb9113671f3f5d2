-- By the id.
use native.Mathlib.Omega.{arith}
use mathlib.Core.Path.{ap, ◌∙◌}
use Prim.Native.Nat.{ℕ}
use Rattle.std.specs.Prelude.{Some}
use borrow.Author.Tests.{lt-ltb, le-ltb}
use Rattle.packets.specs.declared.Command.TheVariants.{Read}
use Rattle.aircraft_lines.specs.declared.Line.TheVariants.{Send}
use Rattle.aircraft_lines.specs.Asked.{size_of}
use Rattle.aircraft_lines.proofs.Said.{chosen_none, chosen_some, read_none, read-outside, read_says}
use Rattle.aircraft_lines.proofs.commands.reads.Goals as goal

pub returns-in_err-id : goal.returns-in_err-id
returns-in_err-id c = rw c.from_residual.ensures (read_none c.args.id (chosen_none _ _ c.in_err-id.ensures))

pub returns-in-Ok : goal.returns-in-Ok
returns-in-Ok c =
    let p = chosen_some _ _ _ c.in_ok-id.ensures in
    let h = c.in-Ok.ensures.0 in
    ap (λ (n : ℕ). Some (Send (Read n))) (c.in-Ok.ensures.1 ∙ p.1)
    ∙ read_says c.args.id p.0 (lt-ltb (size_of c.args.id) 256 (omega (arith, p.1)))

pub returns-in-Err : goal.returns-in-Err
returns-in-Err c =
    let p = chosen_some _ _ _ c.in_ok-id.ensures in
    read-outside c.args.id p.0 (le-ltb (size_of c.args.id) 256 (omega (arith, p.1, c.in-Err.ensures)))
