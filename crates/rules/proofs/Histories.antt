-- One induction for every fold over events: a relation of the world and of what a history says, kept by each event, holds at the end.
-- Assumes nothing.
use mathlib.Core.Path.{◌≡◌, refl}
use mathlib.Core.List.{List, [], ◌∷◌}
use Rattle.rules.specs.State.{Lent, fresh_pod}
use Rattle.rules.specs.World.{World, world, Call, power, Stepped, next, final, powered}
use Rattle.rules.specs.History.{Event, events, fold}
use Rattle.rules.proofs.Happens.{Happens, by_rows, by_power, happens}
use Rattle.rules.proofs.Eventful.{Eventful, eventful}

-- a relation that is kept by one event
abbrev pub Keeps : {A : Type 0} → (Event → A → A) → (World → A → Type 0) → Type 0
Keeps {A} f R = (w v : World) (e : Event) → Eventful w e v → (a : A) → R w a → R v (f e a)

pub history : {A : Type 0} (f : Event → A → A) (R : World → A → Type 0) → Keeps f R
    → (cs : List Call) (w : World) (a : A) → R w a → R (final w cs) (fold f a (events w cs))
unfolding final events fold
history f R k [] w a h = h
history f R k (c ∷ cs) w a h = history f R k cs (next w c) _ (k w (next w c) _ (eventful (happens w c)) a h)

-- two folds at once
abbrev pub both : {A B : Type 0} → (Event → A → A) → (Event → B → B) → Event → A × B → A × B
both f g e a = (f e a.0, g e a.1)

pub fold-both : {A B : Type 0} (f : Event → A → A) (g : Event → B → B) (es : List Event) (a : A × B)
    → fold (both f g) a es ≡ (fold f a.0 es, fold g a.1 es)
unfolding fold
fold-both f g [] a = refl
fold-both f g (e ∷ es) a = fold-both f g es (both f g e a)

-- power leaves a fresh pod, refused or not
fresh : {w : World} {s : Stepped} → Happens w power s → w.pod ≡ fresh_pod → s.world.pod ≡ fresh_pod
fresh (by_rows c n f) e = e
fresh (by_power k) e = refl

pub powered_fresh : (l : Lent) → (powered l).pod ≡ fresh_pod
powered_fresh l = fresh (happens (world fresh_pod l) power) refl
