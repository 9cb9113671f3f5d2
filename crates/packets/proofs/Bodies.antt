-- How long the bodies are.
use Prim.Native.Nat.{ℕ}
use native.Mathlib.Omega.{arith}
use mathlib.Core.Path.{◌≡◌, refl}
use lib.IntN.{ℤ}
use lib.ListN.{length}
use Rattle.packets.specs.declared.Fields.{Fields}
use Rattle.packets.specs.declared.Report.{Report}
use Rattle.numbers.specs.Numbers.{high_first}
use Rattle.numbers.specs.Layout.{laid_out}
use Rattle.packets.specs.Answers.{status_body, value_body, field_bytes}

pub value_body-length : (id : ℕ) (v : ℤ) → length (value_body id v) ≡ 5
unfolding value_body high_first
value_body-length id v = refl

pub status_body-length : (r : Report) → length r.ids ≡ 8 → length (status_body r) ≡ 18
unfolding status_body high_first
status_body-length r e = omega arith

pub field_bytes-length : (f : Fields) → length (field_bytes f) ≡ 21
unfolding field_bytes laid_out high_first
field_bytes-length f = refl
