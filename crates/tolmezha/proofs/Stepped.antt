-- A step, from what was on its way to what is on its way then.
-- Assumes nothing.
use Prim.Native.Nat.{ℕ}
use mathlib.Core.Path.{◌≡◌, sym, ap, ◌∙◌}
use mathlib.Core.Bool.{cond}
use mathlib.Core.List.{List}
use lib.IntN.{ℤ}
use Rattle.std.specs.Prelude.{Option}
use Rattle.rows.specs.Rows.{Said, Out, out}
use Rattle.airframe.specs.declared.Heard.{Heard}
use Rattle.airframe.specs.declared.Sending.{Sending}
use Rattle.airframe.specs.Reading.{Meant}
use Rattle.airframe.specs.Sending.{is_over, Came, Outcome, heard_of, reply_said, heard_said}
use Rattle.tolmezha.specs.Numbers.{state_of, sending_in, step_of, step_answered, read_told, told, told_of}

told_same : {y z k l : ℤ} {u v : List ℤ} {s t : List ℕ} → y ≡ z → k ≡ l → u ≡ v → s ≡ t → told y k u s ≡ told z l v t
told_same a b c d = rw (a, b, c, d)

module _ (x : Came) (a : List ℕ) (s s' : List ℕ) (before : Sending) (e : before ≡ sending_in s) (h : Heard) (heard : heard_said h a ≡ heard_of before x)
    (z : ℤ) (step : z ≡ step_of h.step) (left : s' ≡ cond (is_over before) s (state_of h.sending)) where
  came : heard_of (sending_in s) x ≡ heard_said h a
  came = ap (λ (b : Sending). heard_of b x) (sym e) ∙ sym heard

  pub stepped : out z tt s' ≡ step_answered x s
  unfolding heard_said
  stepped = rw (came, step, left, e)

  pub replied : (kind kind' : ℤ) (values values' : List ℤ) → out kind' tt values' ≡ read_told (reply_said h.reply a) kind values
      → told z kind' values' s' ≡ told_of x kind values s
  unfolding heard_said
  replied kind kind' values values' r =
      let meant = ap (λ (o : Outcome). o.meant) came in
      let read : out kind' tt values' ≡ read_told (heard_of (sending_in s) x).meant kind values = r ∙ ap (λ (m : Option (Said Meant)). read_told m kind values) (sym meant) in
      told_same (ap (λ (o : Out ℤ (Unit {0}) (List ℕ)). o.said) stepped) (ap (λ (o : Out ℤ (Unit {0}) (List ℤ)). o.said) read)
      (ap (λ (o : Out ℤ (Unit {0}) (List ℤ)). o.lent) read) (ap (λ (o : Out ℤ (Unit {0}) (List ℕ)). o.lent) stepped)
