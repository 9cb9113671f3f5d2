-- What comes back of the parts that were lent, and that what lies behind them stays.
-- Assumes nothing.
use Prim.Native.Nat.{ℕ, ◌≤◌}
use native.Mathlib.Omega.{arith}
use mathlib.Core.Path.{◌≡◌, sym, subst, ◌∙◌}
use mathlib.Core.List.{List, [], ◌++◌}
use lib.ListN.{length, take, drop, length-append, length-drop}
use lib.Seq.{length-take-le, take_at, drop_at}
use Rattle.rules.specs.declared.Pod.{Pod}
use Rattle.lines.specs.Asked.{Asked}
use Rattle.items.specs.declared.output.Output.{Output}
use Rattle.line_calls.specs.declared.Memory.{Memory}
use Rattle.line_calls.specs.declared.Sizes.{Sizes}
use Rattle.line_calls.specs.Memory.{memory, lent_at, behind, SizesFit}
use Rattle.line_calls.specs.Promise.{LineAnswered, LentAnswered}

-- a part that was lent from the start, as it came back, in front of the rest
module _ (k : ℕ) (whole part : List ℕ) (fits : k ≤ length whole) (kept : length part ≡ length (take k whole)) where
  part_is : take k (part ++ drop k whole) ≡ part
  part_is = take_at part (drop k whole) k (kept ∙ length-take-le k whole fits)

  rest_is : drop k (part ++ drop k whole) ≡ drop k whole
  rest_is = drop_at part (drop k whole) k (kept ∙ length-take-le k whole fits)

  pub whole_is : length (part ++ drop k whole) ≡ length whole
  whole_is = omega (arith, fits, kept, length-take-le k whole fits, length-append part (drop k whole), length-drop k whole)

-- each part comes back as long as it was lent
pub record PartsKept (s : Sizes) (m parts : Memory) : Type 0 where
  pub room : length parts.room ≡ length (take s.room m.room)
  pub priority : length parts.priority ≡ length (take s.priority m.priority)
  pub ordinary : length parts.ordinary ≡ length (take s.ordinary m.ordinary)
  pub five : length parts.five ≡ length (take s.five m.five)
  pub six : length parts.six ≡ length (take s.six m.six)
  pub seven : length parts.seven ≡ length (take s.seven m.seven)

abbrev pub come_back : Sizes → Memory → Memory → Memory
come_back s m parts =
    memory (parts.room ++ drop s.room m.room) (parts.priority ++ drop s.priority m.priority)
    (parts.ordinary ++ drop s.ordinary m.ordinary) (parts.five ++ drop s.five m.five) (parts.six ++ drop s.six m.six)
    (parts.seven ++ drop s.seven m.seven) parts.load

module _ (s : Sizes) (m parts : Memory) (f : SizesFit s m) (k : PartsKept s m parts) where
  lent_is : lent_at s (come_back s m parts) ≡ parts
  lent_is = λ i.
      memory (part_is s.room m.room parts.room f.room k.room i)
      (part_is s.priority m.priority parts.priority f.priority k.priority i)
      (part_is s.ordinary m.ordinary parts.ordinary f.ordinary k.ordinary i)
      (part_is s.five m.five parts.five f.five k.five i)
      (part_is s.six m.six parts.six f.six k.six i)
      (part_is s.seven m.seven parts.seven f.seven k.seven i)
      parts.load

  behind_is : behind s (come_back s m parts) ≡ behind s m
  behind_is = λ i.
      memory (rest_is s.room m.room parts.room f.room k.room i)
      (rest_is s.priority m.priority parts.priority f.priority k.priority i)
      (rest_is s.ordinary m.ordinary parts.ordinary f.ordinary k.ordinary i)
      (rest_is s.five m.five parts.five f.five k.five i)
      (rest_is s.six m.six parts.six f.six k.six i)
      (rest_is s.seven m.seven parts.seven f.seven k.seven i)
      []

  -- what is answered over the parts is answered over the memory that they come back to
  pub answered_lent : (a : Asked) (p q : Pod) (o o' : Output) → LineAnswered a p q (lent_at s m) parts o o'
      → LentAnswered a p q s m (come_back s m parts) o o'
  answered_lent a p q o o' l =
      record { answered = subst (λ (x : Memory). LineAnswered a p q (lent_at s m) x o o') (sym lent_is) l; rest = behind_is }

-- what is asked in other words
pub lent_as : {p q : Pod} {s : Sizes} {m m' : Memory} {o o' : Output} {a b : Asked} → a ≡ b → LentAnswered b p q s m m' o o'
    → LentAnswered a p q s m m' o o'
lent_as {p = p} {q = q} {s = s} {m = m} {m' = m'} {o = o} {o' = o'} e h = subst (λ (x : Asked). LentAnswered x p q s m m' o o') (sym e) h
