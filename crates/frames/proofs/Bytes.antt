-- The two frames, byte by byte.
use Prim.Native.Nat.{ℕ, ◌+◌, ◌*◌}
use mathlib.Core.Path.{◌≡◌}
use mathlib.Core.Bool.{Bool, cond}
use mathlib.Core.List.{List, [], ◌∷◌}
use native.Mathlib.Omega.{arith}
use lib.ListN.{get_or}
use Rattle.pipe.specs.declared.Pipe.{Pipe}
use Rattle.pipe.specs.Input.{gathering_of}
use Rattle.pipe.specs.Output.{busy_of}
use Rattle.frames.specs.Fields.{bits_of, placed, frame}
use Rattle.frames.specs.Layout.{lines03, lines47}

eight : {a b c d e f g h a' b' c' d' e' f' g' h' : ℕ} → a ≡ a' → b ≡ b' → c ≡ c' → d ≡ d' → e ≡ e' → f ≡ f' → g ≡ g' → h ≡ h' → ◌≡◌ {A = List ℕ} (a ∷ b ∷ c ∷ d ∷ e ∷ f ∷ g ∷ h ∷ []) (a' ∷ b' ∷ c' ∷ d' ∷ e' ∷ f' ∷ g' ∷ h' ∷ [])
eight p q r s t u v w = cc

-- AN03: the input's timeouts in the upper half of byte 0 and the output's in the lower, channels 1 to 3, and above their bits 9 and 8 the flags and the self-check number
pub bytes_03 : (a : List ℕ) (p : Pipe) (on : Bool) (check : ℕ) → frame (lines03 a p on check) ≡ ((p.input.timeouts * 16 + p.output.timeouts) ∷ 0 ∷ bits_of (get_or a 1 0) 7 0 ∷ (cond (gathering_of p.input) 1 0 * 128 + bits_of (get_or a 1 0) 9 8) ∷ bits_of (get_or a 2 0) 7 0 ∷ (cond (busy_of p.output) 1 0 * 128 + cond on 1 0 * 4 + bits_of (get_or a 2 0) 9 8) ∷ bits_of (get_or a 3 0) 7 0 ∷ (check * 4 + bits_of (get_or a 3 0) 9 8) ∷ [])
unfolding frame placed lines03
bytes_03 a p on check = eight (omega arith) (omega arith) (omega arith) (omega arith) (omega arith) (omega arith) (omega arith) (omega arith)

-- AN47: channels 5 to 7
pub bytes_47 : (a : List ℕ) → frame (lines47 a) ≡ (0 ∷ 0 ∷ bits_of (get_or a 5 0) 7 0 ∷ bits_of (get_or a 5 0) 9 8 ∷ bits_of (get_or a 6 0) 7 0 ∷ bits_of (get_or a 6 0) 9 8 ∷ bits_of (get_or a 7 0) 7 0 ∷ bits_of (get_or a 7 0) 9 8 ∷ [])
unfolding frame placed lines47
bytes_47 a = eight (omega arith) (omega arith) (omega arith) (omega arith) (omega arith) (omega arith) (omega arith) (omega arith)
