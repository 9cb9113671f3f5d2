-- Either store: what is lent with one store changed, and the pod with one ring changed. Each law is said once, for whichever store.
-- Assumes nothing.
use mathlib.Core.Path.{◌≡◌, refl}
use mathlib.Core.Bool.{Bool, true, ◌&&◌, cond, false≢true}
use Rattle.blocks.specs.declared.Store.{Store}
use Rattle.blocks.specs.declared.Store.TheVariants.{Priority, Ordinary}
use Rattle.rules.specs.State.{Lent, of_store, store_in, with_store}
use Rattle.rules.specs.History.{same_store}

-- a store lent back as it came
pub store_same : (s : Store) (l : Lent) → with_store s (store_in s l) l ≡ l
store_same Priority l = refl
store_same Ordinary l = refl

-- two things that are one
pub of_both : {A : Type 0} (s : Store) (a : A) → of_store s a a ≡ a
of_both Priority a = refl
of_both Ordinary a = refl

-- two things of which that of a store is changed: so with the rings, the remainings and the bytes
pub of_changed : {A : Type 0} (f : Store → A) (r s : Store) (a b : A)
    → of_store r (of_store s (f s) a) (of_store s b (f s)) ≡ cond (same_store r s) (f r) (of_store r a b)
of_changed f Priority Priority a b = refl
of_changed f Priority Ordinary a b = refl
of_changed f Ordinary Priority a b = refl
of_changed f Ordinary Ordinary a b = refl

-- and what is made of two such pairs
pub of_changed_two : {A B C : Type 0} (h : Store → A → B → C) (f : Store → A) (g : Store → B) (r s : Store) (a b : A) (c d : B)
    → h r (of_store r (of_store s (f s) a) (of_store s b (f s))) (of_store r (of_store s (g s) c) (of_store s d (g s)))
    ≡ cond (same_store r s) (h r (f r) (g r)) (h r (of_store r a b) (of_store r c d))
of_changed_two h f g Priority Priority a b c d = refl
of_changed_two h f g Priority Ordinary a b c d = refl
of_changed_two h f g Ordinary Priority a b c d = refl
of_changed_two h f g Ordinary Ordinary a b c d = refl

-- a store is the one that it is the same as
pub same_is : (r s : Store) → same_store r s ≡ true → r ≡ s
same_is Priority Priority e = refl
same_is Priority Ordinary e = absurd (false≢true e)
same_is Ordinary Priority e = absurd (false≢true e)
same_is Ordinary Ordinary e = refl

-- so what is asked of the one may be asked of the other
pub same_test : (f : Store → Bool) (r s : Store) → (same_store r s && f r) ≡ (same_store r s && f s)
same_test f Priority Priority = refl
same_test f Priority Ordinary = refl
same_test f Ordinary Priority = refl
same_test f Ordinary Ordinary = refl
