-- Bytes are those of the number that they stand for, and a signed number's bits are its own.
-- Assumes nothing.
use Prim.Native.Nat.{ℕ, zero, suc, ◌+◌, ◌*◌, ◌/◌, ◌%◌, ◌^◌, ◌<◌, ◌≤◌}
use native.Mathlib.Omega.{arith}
use native.Mathlib.Nat.{pow-succ', mod-eq_of_lt, one-le-pow, add_comm, mul_assoc, add-mul-div_right, add-mul-mod_self_right}
use mathlib.Core.Path.{◌≡◌, refl, sym, ap, ap₂, ◌∙◌}
use mathlib.Core.List.{List, [], ◌∷◌}
use lib.Arith.{digits_div, digits_lt}
use lib.Dec.{ltb}
use lib.IntN.{ℤ}
use lib.ListN.{length, take, drop, length-drop}
use lib.Seq.{length-take-le}
use Rattle.rows.proofs.Bool.{by-test}
use Rattle.numbers.specs.Numbers.{high_first, number_of, number_at, signed_of, unsigned_of}
use Rattle.numbers.proofs.Below.{Bytes, none_bytes, cons_bytes}

-- a part of bytes is bytes
pub take_bytes : (n : ℕ) (l : List ℕ) → Bytes l → Bytes (take n l)
take_bytes zero l f = none_bytes
take_bytes (suc n) [] f = f
take_bytes (suc n) (x ∷ xs) f = cons_bytes x (take n xs) (f 0) (take_bytes n xs (λ k. f (suc k)))

pub drop_bytes : (n : ℕ) (l : List ℕ) → Bytes l → Bytes (drop n l)
drop_bytes zero l f = f
drop_bytes (suc n) [] f = f
drop_bytes (suc n) (x ∷ xs) f = drop_bytes n xs (λ k. f (suc k))

-- n bytes stand for a number below 256 ^ n
pub number_below : (l : List ℕ) → Bytes l → number_of l < 256 ^ length l
unfolding number_of
number_below [] f = omega arith
number_below (b ∷ bs) f = rw (pow-succ' 256 (length bs)) (digits_lt (f 0) (number_below bs (λ k. f (suc k))))

-- the n bytes of a number don't show what is from 256 ^ n on
higher_lost : (n c x : ℕ) → high_first n (c * 256 ^ n + x) ≡ high_first n x
unfolding high_first
higher_lost zero c x = refl
higher_lost (suc n) c x =
    let m = 256 ^ n in
    let up : c * 256 ^ suc n + x ≡ c * 256 * m + x = ap (λ (k : ℕ). k + x) (ap (λ (k : ℕ). c * k) (pow-succ' 256 n) ∙ sym (mul_assoc c 256 m)) in
    let digit : (c * 256 * m + x) / m ≡ x / m + c * 256 = ap (λ (k : ℕ). k / m) (add_comm (c * 256 * m) x) ∙ add-mul-div_right x (c * 256) (one-le-pow n 256 (omega arith)) in
    rw up (
    ap₂ (λ (y : ℕ) (ys : List ℕ). y ∷ ys) (ap (λ (k : ℕ). k % 256) digit ∙ add-mul-mod_self_right (x / m) c 256) (higher_lost n (c * 256) x))

pub bytes_back : (l : List ℕ) → Bytes l → high_first (length l) (number_of l) ≡ l
unfolding high_first number_of
bytes_back [] f = refl
bytes_back (b ∷ bs) f =
    let rest : Bytes bs = λ k. f (suc k) in
    ap₂ (λ (y : ℕ) (ys : List ℕ). y ∷ ys) (ap (λ (k : ℕ). k % 256) (digits_div b (number_below bs rest)) ∙ mod-eq_of_lt (f 0))
    (higher_lost (length bs) b (number_of bs) ∙ bytes_back bs rest)

-- so are those from a place on
module _ (a : List ℕ) (at n : ℕ) (within : at + n ≤ length a) (f : Bytes a) where
  part_size : length (take n (drop at a)) ≡ n
  part_size = length-take-le n (drop at a) (omega (arith, length-drop at a))

  part_bytes : Bytes (take n (drop at a))
  part_bytes = take_bytes n (drop at a) (drop_bytes at a f)

  pub number-shown : high_first n (number_at a at n) ≡ take n (drop at a)
  unfolding number_at
  number-shown = ap (λ (k : ℕ). high_first k (number_of (take n (drop at a)))) (sym part_size) ∙ bytes_back (take n (drop at a)) part_bytes

  pub number_fits : number_at a at n < 256 ^ n
  unfolding number_at
  number_fits = rw part_size at (number_below (take n (drop at a)) part_bytes)

-- the bits of a signed number
pub unsigned_back : (n u : ℕ) → u < 256 ^ n → unsigned_of n (signed_of n u) ≡ u
unfolding signed_of unsigned_of
unsigned_back n u h = by-test (λ (v : ℤ). unsigned_of n v ≡ u) (ltb u (256 ^ n / 2)) (λ _. refl) (λ _. omega arith)
