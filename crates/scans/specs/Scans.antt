-- A part of a list, and where a number stands first in a list.
-- Assumes nothing.
use Rattle.std.specs.Prelude.{ℕ, suc, List, [], ◌∷◌, cond, eqb, take, drop}

-- what stands from one place on and below another
abbrev pub slice : ℕ → ℕ → List ℕ → List ℕ
slice from to l = drop from (take to l)

-- how many stand before the first that is b: all of them where none is
unfoldable pub index_of : ℕ → List ℕ → ℕ
index_of b [] = 0
index_of b (x ∷ xs) = cond (eqb x b) 0 (suc (index_of b xs))
