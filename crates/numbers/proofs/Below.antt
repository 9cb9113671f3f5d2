-- Bytes are below 256: those that a number is written in, and lists made of such.
use Prim.Native.Nat.{ℕ, zero, suc, ◌/◌, ◌^◌, ◌<◌}
use native.Mathlib.Nat.{mod-lt}
use native.Mathlib.Omega.{arith}
use mathlib.Core.List.{List, [], ◌∷◌, ◌++◌}
use lib.ListN.{get_or, set}
use Rattle.numbers.specs.Numbers.{high_first}
use Rattle.numbers.specs.Layout.{Part, laid_out}

-- a list of bytes
abbrev pub Bytes : List ℕ → Type 0
Bytes l = (k : ℕ) → get_or l k 0 < 256

pub none_bytes : Bytes []
none_bytes k = omega arith

pub cons_bytes : (x : ℕ) (xs : List ℕ) → x < 256 → Bytes xs → Bytes (x ∷ xs)
cons_bytes x xs h f zero = h
cons_bytes x xs h f (suc k) = f k

pub append_bytes : (xs ys : List ℕ) → Bytes xs → Bytes ys → Bytes (xs ++ ys)
append_bytes [] ys f g = g
append_bytes (x ∷ xs) ys f g = cons_bytes x (xs ++ ys) (f 0) (append_bytes xs ys (λ k. f (suc k)) g)

pub set_bytes : (l : List ℕ) (i b : ℕ) → Bytes l → b < 256 → Bytes (set l i b)
set_bytes [] i b f h = f
set_bytes (x ∷ xs) zero b f h = cons_bytes b xs h (λ k. f (suc k))
set_bytes (x ∷ xs) (suc i) b f h = cons_bytes x (set xs i b) (f 0) (set_bytes xs i b (λ k. f (suc k)) h)

pub number-bytes : (n x : ℕ) → Bytes (high_first n x)
unfolding high_first
number-bytes zero x = none_bytes
number-bytes (suc n) x = cons_bytes _ (high_first n x) (mod-lt (x / 256 ^ n) (omega arith)) (number-bytes n x)

pub table_bytes : {A : Type 0} → (ps : List (Part A)) (a : A) → Bytes (laid_out ps a)
unfolding laid_out
table_bytes [] a = none_bytes
table_bytes (p ∷ ps) a = append_bytes (high_first p.bytes (p.value a)) (laid_out ps a) (number-bytes p.bytes (p.value a)) (table_bytes ps a)
