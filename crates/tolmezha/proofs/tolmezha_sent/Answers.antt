-- A code that is no byte is refused.
use native.Mathlib.Omega.{arith}
use Prim.Native.Nat.{◌^◌}
use mathlib.Core.Path.{◌≡◌}
use mathlib.Core.Bool.{true, false}
use borrow.Author.Tests.{le-ltb, lt-ltb}
use lib.Dec.{ltb}
use Rattle.rows.specs.Rows.{ran}
use Rattle.tolmezha.specs.Numbers.{sent_answered}
use Rattle.tolmezha.proofs.tolmezha_sent.Goals as goal

pub returns-in_default : goal.returns-in_default
unfolding sent_answered ran
returns-in_default c =
    let large : ltb c.args.code (2 ^ 8) ≡ false = le-ltb c.args.code (2 ^ 8) (omega (arith, c.in_default.ensures)) in
    rw large

pub returns : goal.returns
unfolding sent_answered ran
returns c =
    let small : ltb c.args.code (2 ^ 8) ≡ true = lt-ltb c.args.code (2 ^ 8) (omega (arith, c.in-Ok.ensures.0)) in
    rw (small, c.state_of.ensures, c.sent.ensures, c.in-Ok.ensures.1)
