-- What a table lays out can be read back, whatever the table.
use Prim.Native.Nat.{ℕ, ◌+◌, ◌^◌, ◌<◌}
use mathlib.Core.Path.{◌≡◌, refl, sym, ap, ap₂, ◌∙◌}
use mathlib.Core.List.{List, [], ◌∷◌, ◌++◌, append_assoc}
use lib.ListN.{length, take, length-append}
use lib.Seq.{take_at, drop_at}
use Rattle.numbers.specs.Numbers.{high_first, number_of, number_at}
use Rattle.numbers.specs.Layout.{Part, laid_out, numbers_at}
use Rattle.numbers.proofs.Digits.{high_first-length, number-back}

-- each number fits its bytes
abbrev pub Fits : {A : Type 0} → List (Part A) → A → Type 0
Fits [] a = Unit {0}
Fits (p ∷ ps) a = (p.value a < 256 ^ p.bytes) × Fits ps a

-- the numbers themselves
abbrev pub numbers_of : {A : Type 0} → List (Part A) → A → List ℕ
numbers_of [] a = []
numbers_of (p ∷ ps) a = p.value a ∷ numbers_of ps a

-- a number behind other bytes is read where they end
number_there : (front rest : List ℕ) (n x : ℕ) → x < 256 ^ n → number_at (front ++ (high_first n x ++ rest)) (length front) n ≡ x
unfolding number_at
number_there front rest n x h =
    ap (λ (l : List ℕ). number_of (take n l)) (drop_at front (high_first n x ++ rest) (length front) refl)
    ∙ ap number_of (take_at (high_first n x) rest n (high_first-length n x))
    ∙ number-back n x h

-- and so is each number of a table
pub read_back : {A : Type 0} → (ps : List (Part A)) (a : A) (front rest : List ℕ) → Fits ps a
    → numbers_at ps (front ++ (laid_out ps a ++ rest)) (length front) ≡ numbers_of ps a
unfolding laid_out numbers_at
read_back [] a front rest h = refl
read_back (p ∷ ps) a front rest h =
    let x : List ℕ = high_first p.bytes (p.value a) in
    let next : length (front ++ x) ≡ length front + p.bytes = length-append front x ∙ ap (λ (n : ℕ). length front + n) (high_first-length p.bytes (p.value a)) in
    rw append_assoc
    (ap₂ (λ (n : ℕ) (ns : List ℕ). n ∷ ns) (number_there front (laid_out ps a ++ rest) p.bytes (p.value a) h.0)
    (ap₂ (numbers_at ps) (sym (append_assoc front x (laid_out ps a ++ rest))) (sym next) ∙ read_back ps a (front ++ x) rest h.1))
