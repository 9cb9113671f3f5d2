-- Runs of stores into a list: in two parts, what they keep, and stores into a part that was lent.
use Prim.Native.Nat.{ℕ, suc, ◌+◌, ◌-◌, ◌<◌, ◌≤◌}
use native.Mathlib.Omega.{arith}
use native.Mathlib.Numerals.{add-one}
use native.Mathlib.Nat.{zero-add}
use mathlib.Core.Path.{◌≡◌, refl, sym, ap, ◌∙◌}
use mathlib.Core.List.{List, [], ◌∷◌, ◌++◌, append_assoc, append-nil}
use lib.ListN.{length, get_or, take, drop, set, length-drop, drop_of_length-le, get_or-append}
use lib.Seq.{take-suc, sets, sets-eq, length-take-le, get_or-append-add, take_at, take_all, drop-drop, get_or-set_other}

-- a run of stores in two parts
pub sets_append : {A : Type 0} (l : List A) (i : ℕ) (xs ys : List A) → sets l i (xs ++ ys) ≡ sets (sets l i xs) (i + length xs) ys
sets_append l i [] ys = ap (λ (k : ℕ). sets l k ys) (omega arith)
sets_append l i (x ∷ xs) ys =
    sets_append (set l i x) (suc i) xs ys ∙ ap (λ (k : ℕ). sets (sets (set l i x) (suc i) xs) k ys) (omega arith)

-- a run of stores keeps each element before it ..
pub sets_before : (vs l : List ℕ) (i k : ℕ) → k < i → get_or (sets l i vs) k 0 ≡ get_or l k 0
sets_before [] l i k h = refl
sets_before (v ∷ vs) l i k h = sets_before vs (set l i v) (suc i) k (omega arith) ∙ get_or-set_other l i k v 0 (λ e. omega arith)

-- .. and each element behind it
pub sets_behind : (vs l : List ℕ) (i k : ℕ) → i + length vs ≤ k → get_or (sets l i vs) k 0 ≡ get_or l k 0
sets_behind [] l i k h = refl
sets_behind (v ∷ vs) l i k h = sets_behind vs (set l i v) (suc i) k (omega arith) ∙ get_or-set_other l i k v 0 (λ e. omega arith)

-- in it the run stands
pub sets_inside : (vs l : List ℕ) (i j : ℕ) → j < length vs → i + length vs ≤ length l → get_or (sets l i vs) (i + j) 0 ≡ get_or vs j 0
sets_inside vs l i j h k =
    let front : length (take i l) ≡ i = length-take-le i l (omega arith) in
    rw (sets-eq vs l i k, append_assoc, ap (λ (m : ℕ). m + j) (sym front)) (get_or-append-add (take i l) (vs ++ drop (i + length vs) l) j 0 ∙ get_or-append vs (drop (i + length vs) l) 0 j h)

-- a run from the start of a list that holds it can be taken from there
pub sets_taken : (vs l : List ℕ) (n : ℕ) → length vs ≡ n → length vs ≤ length l → take n (sets l 0 vs) ≡ vs
sets_taken vs l n e h = rw (sets-eq vs l 0 (omega arith)) (take_at vs (drop (0 + length vs) l) n e)

-- the part from n to the end, lent, written from its start and given back
pub lent : (l ys vs : List ℕ) (n k : ℕ) → n + length vs ≤ length l → k ≡ length l - n → ys ≡ sets (take k (drop n l)) 0 vs
    → take n l ++ (ys ++ drop k (drop n l)) ≡ sets l n vs
lent l ys vs n k h e y =
    let end : length (drop n l) ≤ k = omega (arith, length-drop n l) in
    let room : 0 + length vs ≤ length (drop n l) = omega (arith, length-drop n l) in
    rw (y, take_all k (drop n l) end, drop_of_length-le (drop n l) {i = k} end, append-nil, sets-eq vs (drop n l) 0 room, zero-add, drop-drop)
    (sym (sets-eq vs l n h ∙ append_assoc (take n l) vs (drop (n + length vs) l)))

-- one element more of a run that is stored
pub stored_more : {A : Type 0} (to run : List A) (at i : ℕ) (x : A) → i < length run → x ≡ get_or run i x
    → set (sets to at (take i run)) (at + i) x ≡ sets to at (take (i + 1) run)
stored_more to run at i x h e =
    let long : length (take i run) ≡ i = length-take-le i run (omega arith) in
    rw (add-one, take-suc run i x h, ← e) (sym (sets_append to at (take i run) (x ∷ []) ∙ ap (λ (k : ℕ). set (sets to at (take i run)) (at + k) x) long))
