-- Numbers as they are printed.
-- Assumes nothing.
use Rattle.std.specs.Prelude.{ℕ, suc, List, [], ◌∷◌, ◌++◌, map, ℤ, pos, negsuc}
use Rattle.items.specs.Characters.{space, dash}
use Rattle.items.specs.Printed.{decimal}

abbrev pub signed_text : ℤ → List ℕ
signed_text (pos n) = decimal n
signed_text (negsuc n) = dash ∷ decimal (suc n)

-- "each after one space"
unfoldable pub spelled : List ℤ → List ℕ
spelled [] = []
spelled (z ∷ zs) = space ∷ (signed_text z ++ spelled zs)

abbrev pub naturals : List ℕ → List ℤ
naturals l = map pos l
