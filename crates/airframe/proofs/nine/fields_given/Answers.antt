-- Each number becomes its field where it fits, and none does where one is too large.
use Rattle.std.specs.Prelude.{ℕ, ◌<◌, ltb, Option, Some, None, Result, Ok, Err}
use Rattle.std.specs.Result.{OkIff, result_ok}
use mathlib.Core.Path.{◌≡◌}
use mathlib.Core.Bool.{true, false}
use native.Mathlib.Omega.{arith}
use borrow.Author.Tests.{lt-ltb, le-ltb}
use Rattle.rows.proofs.Bool.{and-false}
use Rattle.airframe.specs.Given.{given_in}
use Rattle.airframe.proofs.nine.fields_given.Goals as goal

module _ {E : Type 0} (n m : ℕ) where
  large : (r : Result ℕ E) → OkIff r (n < m) n → ◌≡◌ {A = Option ℕ} None (result_ok r) → ltb n m ≡ false
  large (Ok x) h e = cc
  large (Err y) h e = le-ltb n m (omega (arith, h))

  small : {x : ℕ} (r : Result ℕ E) → OkIff r (n < m) n → Some x ≡ result_ok r → (ltb n m ≡ true) × (x ≡ n)
  small (Ok y) h e = (lt-ltb n m h.0, cc)
  small (Err y) h e = cc

pub returns-in_err-ok : goal.returns-in_err-ok
unfolding given_in
returns-in_err-ok c = simp (c.from_residual.ensures, large _ _ _ c.try_from.ensures c.in_err-ok.ensures.value, and-false)

pub returns-in_err-ok-2 : goal.returns-in_err-ok-2
unfolding given_in
returns-in_err-ok-2 c = simp (c.from_residual-in_err-ok-2.ensures, large _ _ _ c.try_from-2.ensures c.in_err-ok-2.ensures.value, and-false)

pub returns-in_err-ok-3 : goal.returns-in_err-ok-3
unfolding given_in
returns-in_err-ok-3 c = simp (c.from_residual-in_err-ok-3.ensures, large _ _ _ c.try_from-3.ensures c.in_err-ok-3.ensures.value, and-false)

pub returns-in_err-ok-4 : goal.returns-in_err-ok-4
unfolding given_in
returns-in_err-ok-4 c = simp (c.from_residual-in_err-ok-4.ensures, large _ _ _ c.try_from-4.ensures c.in_err-ok-4.ensures.value, and-false)

pub returns-in_err-ok-5 : goal.returns-in_err-ok-5
unfolding given_in
returns-in_err-ok-5 c = simp (c.from_residual-in_err-ok-5.ensures, large _ _ _ c.try_from-5.ensures c.in_err-ok-5.ensures.value, and-false)

pub returns-in_err-ok-6 : goal.returns-in_err-ok-6
unfolding given_in
returns-in_err-ok-6 c = simp (c.from_residual-in_err-ok-6.ensures, large _ _ _ c.try_from-6.ensures c.in_err-ok-6.ensures.value, and-false)

pub returns-in_err-ok-7 : goal.returns-in_err-ok-7
unfolding given_in
returns-in_err-ok-7 c = simp (c.from_residual-in_err-ok-7.ensures, large _ _ _ c.try_from-7.ensures c.in_err-ok-7.ensures.value, and-false)

pub returns-in_err-ok-8 : goal.returns-in_err-ok-8
unfolding given_in
returns-in_err-ok-8 c = simp (c.from_residual-in_err-ok-8.ensures, large _ _ _ c.try_from-8.ensures c.in_err-ok-8.ensures.value, and-false)

pub returns-in_err-ok-9 : goal.returns-in_err-ok-9
unfolding given_in
returns-in_err-ok-9 c = simp (c.from_residual-in_err-ok-9.ensures, large _ _ _ c.try_from-9.ensures c.in_err-ok-9.ensures.value, and-false)

pub returns : goal.returns
unfolding given_in
returns c =
    let f1 = small _ _ _ c.try_from.ensures c.in_ok-ok.ensures.value in
    let f2 = small _ _ _ c.try_from-2.ensures c.in_ok-ok-2.ensures.value in
    let f3 = small _ _ _ c.try_from-3.ensures c.in_ok-ok-3.ensures.value in
    let f4 = small _ _ _ c.try_from-4.ensures c.in_ok-ok-4.ensures.value in
    let f5 = small _ _ _ c.try_from-5.ensures c.in_ok-ok-5.ensures.value in
    let f6 = small _ _ _ c.try_from-6.ensures c.in_ok-ok-6.ensures.value in
    let f7 = small _ _ _ c.try_from-7.ensures c.in_ok-ok-7.ensures.value in
    let f8 = small _ _ _ c.try_from-8.ensures c.in_ok-ok-8.ensures.value in
    let f9 = small _ _ _ c.try_from-9.ensures c.in_ok-ok-9.ensures.value in
    simp (f1.0, f1.1, f2.0, f2.1, f3.0, f3.1, f4.0, f4.1, f5.0, f5.1, f6.0, f6.1, f7.0, f7.1, f8.0, f8.1, f9.0, f9.1)
