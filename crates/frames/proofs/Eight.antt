-- Lists of eight: what is listed of each number from 0 to 7.
use Prim.Native.Nat.{ℕ, zero, suc, ◌+◌, ◌<◌}
use mathlib.Core.Path.{◌≡◌, ap, ◌∙◌}
use mathlib.Core.List.{List, [], ◌∷◌, map}
use native.Mathlib.Omega.{arith}
use lib.ListN.{get_or}

-- n numbers from k on
abbrev from : ℕ → ℕ → List ℕ
from k zero = []
from k (suc n) = k ∷ from (suc k) n

from_at : (f : ℕ → ℕ) (k n c : ℕ) → c < n → get_or (map f (from k n)) c 0 ≡ f (k + c)
from_at f k zero c h = absurd (omega arith)
from_at f k (suc n) zero h = let same : k ≡ k + 0 = omega arith in ap f same
from_at f k (suc n) (suc c) h = let on : suc k + c ≡ k + suc c = omega arith in from_at f (suc k) n c (omega arith) ∙ ap f on

-- what is listed of a number stands at the number's place
pub eight_at : (f : ℕ → ℕ) (c : ℕ) → c < 8 → get_or (map f (0 ∷ 1 ∷ 2 ∷ 3 ∷ 4 ∷ 5 ∷ 6 ∷ 7 ∷ [])) c 0 ≡ f c
eight_at f c h = let same : 0 + c ≡ c = omega arith in from_at f 0 8 c h ∙ ap f same
