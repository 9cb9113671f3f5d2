-- What no byte holds is no command's code.
use native.Mathlib.Omega.{arith}
use Prim.Native.Nat.{ℕ, ◌<◌, ◌≤◌}
use mathlib.Core.Path.{◌≡◌, refl, sym, ap, ◌∙◌}
use mathlib.Core.Bool.{false}
use mathlib.Core.List.{List}
use borrow.Author.Tests.{ne_eqb}
use Rattle.std.specs.Prelude.{Result, Ok, Err}
use Rattle.std.specs.Result.{OkIff, result_unwrap_or}
use Rattle.packets.specs.Commands.{is_code, listed_in}
use Rattle.airframe.specs.Reading.{read_as}
use Rattle.airframe.proofs.Due.{no_code}
use Rattle.tolmezha.proofs.reading.byte.Goals as goal

under : {m n : ℕ} → m ≡ n → 256 ≤ m → n < 255 → ⊥
under e h k = omega arith

large : (code : ℕ) → 256 ≤ code → is_code code ≡ false
unfolding is_code listed_in
large code h =
    rw (
      ne_eqb code 0x90 (λ e. under e h (omega arith)),
      ne_eqb code 0x91 (λ e. under e h (omega arith)),
      ne_eqb code 0x92 (λ e. under e h (omega arith)),
      ne_eqb code 0x93 (λ e. under e h (omega arith)),
      ne_eqb code 0x94 (λ e. under e h (omega arith)),
      ne_eqb code 0x95 (λ e. under e h (omega arith)),
      ne_eqb code 0x96 (λ e. under e h (omega arith)),
      ne_eqb code 0x9F (λ e. under e h (omega arith)),
    )

nought : is_code 0 ≡ false
unfolding is_code listed_in
nought = refl

as_byte : {E : Type 0} (code : ℕ) (r : Result ℕ E) → OkIff r (code < 256) code → (a : List ℕ) → read_as (result_unwrap_or r 0) a ≡ read_as code a
as_byte code (Ok n) h a = rw h.1
as_byte code (Err e) h a = no_code 0 a nought ∙ sym (no_code code a (large code (omega (arith, h))))

pub returns : goal.returns
returns c = λ a. ap (λ (n : ℕ). read_as n a) c.unwrap_or.ensures ∙ as_byte c.args.code c.try_from.result c.try_from.ensures a
