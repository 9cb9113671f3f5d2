-- What an acknowledgement leaves of the pod: all but the rings, the fields and the exchange.
-- Assumes nothing.
use Prim.Native.Nat.{ℕ}
use mathlib.Core.Path.{◌≡◌, refl}
use mathlib.Core.Bool.{Bool, ◌||◌}
use lib.Dec.{eqb}
use Rattle.rows.proofs.Bool.{by-test}
use Rattle.blocks.specs.declared.Store.{Store}
use Rattle.rules.specs.declared.Exchange.{Exchange}
use Rattle.rules.specs.declared.Exchange.TheVariants.{Closed, Status, Read, Receive}
use Rattle.rules.specs.declared.Pod.{Pod}
use Rattle.rules.specs.State.{ring_of, remaining_of}
use Rattle.rules.specs.Obey.{matches, drop_from, settled, acknowledged_of}

pub record Untouched (p q : Pod) : Type 0 where
  pub initialised : q.initialised ≡ p.initialised
  pub params : q.params ≡ p.params
  pub words : q.words ≡ p.words
  pub pipe : q.pipe ≡ p.pipe

untouched : (p : Pod) → Untouched p p
untouched p = record { initialised = refl; params = refl; words = refl; pipe = refl }

drop_untouched : (s : Store) (p : Pod) → Untouched p (drop_from s p)
unfolding drop_from
drop_untouched s p =
    by-test (λ q. Untouched p q) (eqb (ring_of s p).waiting 0 || eqb (remaining_of s p.fields) 0)
    (λ e. record { initialised = refl; params = refl; words = refl; pipe = refl })
    (λ e. record { initialised = refl; params = refl; words = refl; pipe = refl })

settled_untouched : (x : Exchange) (p : Pod) → Untouched p (settled x p)
unfolding settled
settled_untouched Closed p = untouched p
settled_untouched Status p = untouched p
settled_untouched Read p = untouched p
settled_untouched (Receive s) p = drop_untouched s p

pub acknowledged_untouched : (first : ℕ) (one : Bool) (p : Pod) → Untouched p (acknowledged_of first one p)
unfolding acknowledged_of
acknowledged_untouched first one p =
    let x = by-test (λ q. Untouched p q) (matches first one p.exchange) (λ e. settled_untouched p.exchange p) (λ e. untouched p) in
    record { initialised = x.initialised; params = x.params; words = x.words; pipe = x.pipe }
