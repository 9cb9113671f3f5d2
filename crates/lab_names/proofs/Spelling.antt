-- Names: padded, compared, and looked for from a place of the table on.
-- Assumes nothing.
use Prim.Native.Nat.{ℕ, zero, suc, ◌+◌, ◌-◌, ◌≤◌, ◌<◌}
use native.Mathlib.Omega.{arith}
use native.Mathlib.Numerals.{add-one}
use mathlib.Core.Path.{◌≡◌, refl, sym, ap, ◌∙◌}
use mathlib.Core.Bool.{cond}
use mathlib.Core.List.{List, [], ◌∷◌, ◌++◌, map}
use lib.ListN.{length, drop, get_or, replicate, drop_of_length-le}
use lib.Seq.{sets, sets-eq, drop-cons}
use Rattle.std.specs.Prelude.{Option, Some, None}
use Rattle.items.specs.Characters.{space}
use Rattle.rows.proofs.Bool.{split}
use Rattle.rows.specs.Same.{same_list}
use Rattle.rows.proofs.Same.{same_once, same_self}
use Rattle.lab_names.specs.declared.Part.{Part}
use Rattle.lab_names.specs.Names.{Name, padded, entry, part_in}

drop_replicate : (k n a : ℕ) → drop k (replicate n a) ≡ replicate (n - k) a
drop_replicate zero n a = let e : n ≡ n - 0 = omega arith in ap (λ (k : ℕ). replicate k a) e
drop_replicate (suc k) zero a = let e : 0 ≡ 0 - suc k = omega arith in ap (λ (n : ℕ). replicate n a) e
drop_replicate (suc k) (suc n) a =
    let e : n - k ≡ suc n - suc k = omega arith in
    drop_replicate k n a ∙ ap (λ (m : ℕ). replicate m a) e

pub pad_is : (t : List ℕ) → length t ≤ 14 → sets (replicate 14 space) 0 t ≡ padded t
pad_is t h =
    let n : 0 + length t ≡ length t = omega arith in
    sets-eq t (replicate 14 space) 0 (omega arith)
    ∙ ap (λ (k : ℕ). t ++ drop k (replicate 14 space)) n
    ∙ ap (λ (l : List ℕ). t ++ l) (drop_replicate (length t) 14 space)

-- the first entry that a text is
pub look : List ℕ → List (List ℕ × Part) → Option Part
look t [] = None
look t (x ∷ xs) = cond (same_list t x.0) (Some x.1) (look t xs)

-- .. as the names have it
pub look_is : (t : List ℕ) (ns : List Name) → look t (map entry ns) ≡ part_in t ns
unfolding look part_in
look_is t [] = refl
look_is t (n ∷ ns) = ap (cond (same_list t n.text) (Some n.part)) (look_is t ns)

module _ (t : List ℕ) (xs : List (List ℕ × Part)) (i : ℕ) (d : List ℕ × Part) (h : i < length xs) where
  next : drop i xs ≡ get_or xs i d ∷ drop (i + 1) xs
  next = drop-cons xs i d h ∙ ap (λ (k : ℕ). get_or xs i d ∷ drop k xs) (sym (add-one i))

  -- the entry at the place is the text ..
  pub part_here : (get_or xs i d).0 ≡ t → Some (get_or xs i d).1 ≡ look t (drop i xs)
  unfolding look
  part_here e = rw (next, e, same_self t)

  -- .. or the search goes on
  pub part_past : ((get_or xs i d).0 ≡ t → ⊥) → look t (drop (i + 1) xs) ≡ look t (drop i xs)
  unfolding look
  part_past n =
      split (same_list t (get_or xs i d).0) (λ e. absurd (n (sym (same_once t (get_or xs i d).0 e)))) (λ e. rw (next, e))

-- past the end there is none
pub part_end : (t : List ℕ) (xs : List (List ℕ × Part)) (i : ℕ) → length xs ≤ i → None ≡ look t (drop i xs)
unfolding look
part_end t xs i h = rw (drop_of_length-le xs {i = i} h)
