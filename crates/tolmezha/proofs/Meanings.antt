-- Kind and values back to the meaning that has them, and so every number to its answer.
-- Assumes nothing.
use Prim.Native.Nat.{ℕ}
use mathlib.Core.Path.{◌≡◌, refl, sym, ap, ◌∙◌}
use mathlib.Core.Bool.{cond}
use mathlib.Core.List.{List, [], ◌∷◌, ◌++◌, map}
use lib.Dec.{eqb}
use lib.IntN.{ℤ, pos, negsuc}
use lib.Signed.{mag}
use lib.ListN.{length, length-map, get_or, take, drop}
use lib.Seq.{take_at}
use Rattle.rows.specs.Rows.{Said, refused, gave, Out}
use Rattle.airframe.specs.Reading.{Meant, done, failed, status, value, block}
use Rattle.tolmezha.specs.Numbers.{kind_of, values_of, read_answered}
use Rattle.tolmezha.specs.Statements.{Whole, block_meant, NumbersApart}
use Rattle.tolmezha.proofs.Apart.{built_apart, steps_apart, state_back}
use Rattle.tolmezha.proofs.Placed.{placed}

-- a value that is never below 0
abbrev at : List ℤ → ℕ → ℕ
at l k = mag (get_or l k (pos 0))

abbrev meaning_by : ℤ → List ℤ → List ℕ → Said Meant
meaning_by (negsuc n) l b = refused 23
meaning_by (pos n) l b =
    cond (eqb n 0) (gave done)
    (cond (eqb n 1) (gave (failed (at l 0)))
    (cond (eqb n 2) (gave (status record { mode = at l 0; flags = at l 1; priority = at l 2; ordinary = at l 3; ids = map mag (take 8 (drop 5 l)) } (at l 4)))
    (cond (eqb n 3) (gave (value (at l 0) (get_or l 1 (pos 0))))
    (gave (block b)))))

sizes : (l : List ℕ) → map mag (map pos l) ≡ l
sizes [] = refl
sizes (n ∷ l) = ap (λ (r : List ℕ). n ∷ r) (sizes l)

-- by the values at the front, whatever lies behind them
front : (m : Said Meant) (rest : List ℤ) → Whole m → meaning_by (kind_of m) (values_of m ++ rest) (block_meant m) ≡ m
unfolding Whole block_meant
front (refused n) rest w = rw w
front (gave done) rest w = refl
front (gave (failed e)) rest w = refl
front (gave (status r q)) rest w =
    let eight : length r.ids ≡ 8 = w in
    let ids : map mag (take 8 (map pos r.ids ++ rest)) ≡ r.ids = ap (map mag) (take_at (map pos r.ids) rest 8 (length-map r.ids pos ∙ eight)) ∙ sizes r.ids in
    ap (λ (l : List ℕ). gave (status record { mode = r.mode; flags = r.flags; priority = r.priority; ordinary = r.ordinary; ids = l } q)) ids
front (gave (value id v)) rest w = refl
front (gave (block b)) rest w = refl

abbrev Read : Type 0
Read = Out ℤ (Unit {0}) (List ℤ)

back : (m : Said Meant) (values : List ℤ) → length values ≡ 13 → Whole m
    → meaning_by (read_answered m values).said (read_answered m values).lent (block_meant m) ≡ m
back m values h w = ap (λ (l : List ℤ). meaning_by (kind_of m) l (block_meant m)) (placed m values h w) ∙ front m _ w

same : (m n : Said Meant) (values : List ℤ) → length values ≡ 13 → Whole m → Whole n → block_meant m ≡ block_meant n
    → read_answered m values ≡ read_answered n values → m ≡ n
same m n values h w v b e =
    sym (back m values h w)
    ∙ ap (λ (l : List ℕ). meaning_by (read_answered m values).said (read_answered m values).lent l) b
    ∙ ap (λ (o : Read). meaning_by o.said o.lent (block_meant n)) e
    ∙ back n values h v

pub numbers_apart : NumbersApart
numbers_apart = record { built = built_apart; meanings = same; steps = steps_apart; states = state_back }
