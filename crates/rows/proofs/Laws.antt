-- What holds of every call: refused exactly by its first row that holds, with all as it came; else its effect.
-- Assumes nothing.
use Prim.Native.Nat.{ℕ}
use native.Mathlib.Omega.{arith}
use mathlib.Core.Path.{◌≡◌, refl, sym}
use mathlib.Core.Bool.{false}
use mathlib.Core.List.{List, [], ◌∷◌}
use Rattle.rows.specs.Rows.{Row, First, here, after, Clear, none, past, Said, refused, gave, Out, out, given, ran}
use Rattle.rows.proofs.Bool.{split, never}

-- a row holds first, or none does
pub data Gate (rs : List Row) : Type 0 where
  stops : (n : ℕ) → First n rs → Gate rs
  opens : Clear rs → Gate rs

pub gate : (rs : List Row) → Gate rs
gate [] = opens none
gate (r ∷ rs) = split r.holds (λ h. stops r.number (here h)) (λ h. on h (gate rs))
  where
    on : r.holds ≡ false → Gate rs → Gate (r ∷ rs)
    on h (stops n f) = stops n (after h f)
    on h (opens k) = opens (past h k)

-- the two laws from which the others follow

-- refused by the first row that holds, with all as it came
pub ran_first : {A P L : Type 0} (p : P) (l : L) (e : Out A P L) {n : ℕ} {rs : List Row} → First n rs → ran rs p l e ≡ out (refused n) p l
unfolding ran
ran_first p l e (here h) = rw h
ran_first p l e (after h f) = rw h (ran_first p l e f)

-- the effect, where none holds
pub ran_clear : {A P L : Type 0} (p : P) (l : L) (e : Out A P L) {rs : List Row} → Clear rs → ran rs p l e ≡ given e
unfolding ran
ran_clear p l e none = refl
ran_clear p l e (past h k) = rw h (ran_clear p l e k)

-- the same, as the proof of a function's equation asks for them
pub refused_is : {A P L : Type 0} (p : P) (l : L) (e : Out A P L) {n : ℕ} {rs : List Row} → First n rs → out (refused n) p l ≡ ran rs p l e
refused_is p l e f = sym (ran_first p l e f)

pub given_is : {A P L : Type 0} (p : P) (l : L) (e : Out A P L) {rs : List Row} → Clear rs → given e ≡ ran rs p l e
given_is p l e k = sym (ran_clear p l e k)

-- so a fact of a call is a fact of each of the two
pub ran-case {ℓ} : {A P L : Type 0} (C : Out (Said A) P L → Type ℓ) (rs : List Row) {p : P} {l : L} {e : Out A P L}
    → ((n : ℕ) → First n rs → C (out (refused n) p l)) → (Clear rs → C (given e)) → C (ran rs p l e)
ran-case C rs {p} {l} {e} f g = on (gate rs)
  where
    on : Gate rs → C (ran rs p l e)
    on (stops n h) = rw (ran_first p l e h) (f n h)
    on (opens h) = rw (ran_clear p l e h) (g h)

-- and a fact of two calls with the same rows is a fact of the two refused alike and of the two effects
pub ran-two {ℓ} : {A P L B Q M : Type 0} (C : Out (Said A) P L → Out (Said B) Q M → Type ℓ) {rs qs : List Row}
    {p : P} {l : L} {e : Out A P L} {q : Q} {m : M} {d : Out B Q M} → rs ≡ qs
    → ((n : ℕ) → C (out (refused n) p l) (out (refused n) q m)) → (Clear rs → C (given e) (given d)) → C (ran rs p l e) (ran qs q m d)
ran-two C {rs} {qs} {p} {l} {e} {q} {m} {d} same f g = rw (← same) (on (gate rs))
  where
    on : Gate rs → C (ran rs p l e) (ran rs q m d)
    on (stops n h) = rw (ran_first p l e h, ran_first q m d h) (f n)
    on (opens h) = rw (ran_clear p l e h, ran_clear q m d h) (g h)

-- ---- what follows from what is said

pub refused_same : {A : Type 0} {m n : ℕ} → ◌≡◌ {A = Said A} (refused m) (refused n) → m ≡ n
refused_same e = cc

pub gave_not : {A : Type 0} {a : A} {n : ℕ} → gave a ≡ refused n → ⊥
gave_not e = let z : ◌≡◌ {A = ℕ} 0 1 = cc in omega arith

-- ---- rows, taken apart

pub clear_head : {r : Row} {rs : List Row} → Clear (r ∷ rs) → r.holds ≡ false
clear_head (past h k) = h

pub clear_rest : {r : Row} {rs : List Row} → Clear (r ∷ rs) → Clear rs
clear_rest (past h k) = k

pub never_both {ℓ} : {C : Type ℓ} {n : ℕ} {rs : List Row} → First n rs → Clear rs → C
never_both (here h) (past k c) = never h k
never_both (after h f) (past k c) = never_both f c

-- the first is one
pub first_one : {m n : ℕ} {rs : List Row} → First m rs → First n rs → m ≡ n
first_one (here h) (here k) = refl
first_one (here h) (after k g) = never h k
first_one (after h f) (here k) = never k h
first_one (after h f) (after k g) = first_one f g
