-- An array that `map` gave, as a list.
-- Assumes nothing.
use Prim.Native.Nat.{ℕ}
use native.Mathlib.Omega.{arith}
use mathlib.Core.Path.{◌≡◌, sym, ◌∙◌}
use mathlib.Core.List.{List, map}
use lib.ListN.{length, get_or-map}
use denote.Param.Members.{Mut}
use Rattle.std.specs.Fn.{Called}
use Rattle.std.specs.Array.{IsMapOf}
use Rattle.std.proofs.lemmas.List.{ext_get_or, length-map}

pub mapped : {F A B : Type 0} {g : Mut F (A × Unit {0}) B} {f : F} {xs : List A} {ys : List B} {n : ℕ} (d : A) (h : A → B)
    → length xs ≡ n → IsMapOf g f xs ys n → ((p q : F) (x : A) (y : B) → Called g p (x, tt) y q → y ≡ h x) → ys ≡ map h xs
mapped {xs = xs} {ys = ys} {n = n} d h e m k =
    ext_get_or (h d) ys (map h xs) (m.long ∙ sym e ∙ sym (length-map xs h))
    (λ i l. let c = m.at i d (h d) (omega (arith, m.long)) in k c.0 c.1 _ _ c.2 ∙ sym (get_or-map h xs i d))
