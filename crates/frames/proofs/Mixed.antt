-- A list that is replaced by another one place after another.
use Prim.Native.Nat.{ℕ, suc, ◌+◌, ◌<◌}
use mathlib.Core.Path.{◌≡◌, sym, ap, ◌∙◌}
use mathlib.Core.List.{List, ◌++◌}
use native.Mathlib.Omega.{arith}
use native.Mathlib.Numerals.{add-one}
use lib.ListN.{length, take, drop, set, get_or}
use lib.Seq.{set_at, get_or_at, drop-cons, append_snoc, take-suc, length-take-le}

-- the first k of one list, and the other from there on
abbrev pub mixed : List ℕ → List ℕ → ℕ → List ℕ
mixed ys zs k = take k ys ++ drop k zs

module _ (ys zs : List ℕ) (n : ℕ) (long : length ys ≡ n) (as_long : length zs ≡ n) where
  -- place k still has what the other list has there
  pub mixed-at : (k : ℕ) → k < n → get_or (mixed ys zs k) k 0 ≡ get_or zs k 0
  mixed-at k h =
      let inside : k < length zs = omega arith in
      rw (drop-cons zs k 0 inside) (get_or_at (take k ys) (get_or zs k 0) (drop (suc k) zs) 0 k (length-take-le k ys (omega arith)))

  -- one place more
  pub mixed_more : (k v : ℕ) → k < n → v ≡ get_or ys k 0 → set (mixed ys zs k) k v ≡ mixed ys zs (k + 1)
  mixed_more k v h e =
      let inside : k < length ys = omega arith in
      let as-well : k < length zs = omega arith in
      ap (λ (t : List ℕ). set (take k ys ++ t) k v) (drop-cons zs k 0 as-well)
      ∙ set_at (take k ys) (get_or zs k 0) (drop (suc k) zs) v k (length-take-le k ys (omega arith))
      ∙ sym (append_snoc (take k ys) v (drop (suc k) zs))
      ∙ rw (add-one, take-suc ys k 0 inside, e)
