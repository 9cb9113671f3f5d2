-- A call is its rows and its effect: refused by the first row that holds, with all as it came, else the effect.
-- Assumes nothing.
use Rattle.std.specs.Prelude.{ℕ, ◌≡◌, Bool, true, false, cond, ◌&&◌, ◌||◌, List, [], ◌∷◌, eqb, ltb}

-- a row: its number, and whether it holds
pub record Row : Type 0 where
  pub number : ℕ
  pub holds : Bool

abbrev pub row : ℕ → Bool → Row
row n b = record { number = n; holds = b }

-- in the list's order, the first row that holds has the number n
pub data First : ℕ → List Row → Type 0 where
  here : {r : Row} {rs : List Row} → r.holds ≡ true → First r.number (r ∷ rs)
  after : {n : ℕ} {r : Row} {rs : List Row} → r.holds ≡ false → First n rs → First n (r ∷ rs)

-- no row holds
pub data Clear : List Row → Type 0 where
  none : Clear []
  past : {r : Row} {rs : List Row} → r.holds ≡ false → Clear rs → Clear (r ∷ rs)

-- what is said: refused by a number, or what an effect gives. An effect cannot say the first
pub data Said (A : Type 0) : Type 0 where
  refused : ℕ → Said A
  gave : A → Said A

-- what a call leaves: what is said, the next state, and what was lent as it is left
pub record Out (S P L : Type 0) : Type 0 where
  pub said : S
  pub pod : P
  pub lent : L

abbrev pub out : {S P L : Type 0} → S → P → L → Out S P L
out s p l = record { said = s; pod = p; lent = l }

-- the effect, said as a call says it
abbrev pub given : {A P L : Type 0} → Out A P L → Out (Said A) P L
given e = out (gave e.said) e.pod e.lent

-- a call
unfoldable pub ran : {A P L : Type 0} → List Row → P → L → Out A P L → Out (Said A) P L
ran [] p l e = given e
ran (r ∷ rs) p l e = cond r.holds (out (refused r.number) p l) (ran rs p l e)

-- ---- where the numbers rise, the first is the lowest

unfoldable pub rising : ℕ → List Row → Bool
rising k [] = true
rising k (r ∷ rs) = ltb k r.number && rising r.number rs

-- row n is among these and holds
unfoldable pub held : ℕ → List Row → Bool
held n [] = false
held n (r ∷ rs) = (eqb n r.number && r.holds) || held n rs
