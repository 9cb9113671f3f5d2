-- A first byte or an error byte that is none.
use native.Mathlib.Omega.{arith}
use mathlib.Core.Bool.{and-false}
use borrow.Author.Tests.{le-ltb}
use Rattle.airframe.specs.declared.Form.TheVariants.{Failed}
use Rattle.airframe.specs.Building.{first_fits}
use Rattle.tolmezha.proofs.Built.{first_large, acknowledgement-outside}
use Rattle.tolmezha.proofs.tolmezha_failed.Goals as goal

pub returns-in_default : goal.returns-in_default
returns-in_default c =
    let a = c.args in
    acknowledgement-outside a.code (Failed a.error) a.room.now (rw (first_large a.code (omega (arith, c.in_default.ensures))))

pub returns-in_default-try_from : goal.returns-in_default-try_from
returns-in_default-try_from c =
    let a = c.args in
    acknowledgement-outside a.code (Failed a.error) a.room.now (rw (le-ltb a.error 256 (omega (arith, c.in_default-try_from.ensures)), and-false (first_fits a.code)))
