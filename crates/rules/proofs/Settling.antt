-- An acknowledgement, where the block of an open receive waits: it drops the block of the store that is acknowledged, or it drops none.
-- Assumes nothing.
use Prim.Native.Nat.{ℕ}
use mathlib.Core.Path.{◌≡◌, refl, ◌∙◌}
use mathlib.Core.Bool.{Bool, false, ◌&&◌, ◌||◌, cond, and-true}
use lib.Dec.{eqb}
use Rattle.rows.proofs.Bool.{by-test, and-false}
use Rattle.blocks.specs.declared.Store.{Store}
use Rattle.blocks.specs.declared.Store.TheVariants.{Priority, Ordinary}
use Rattle.packets.specs.Commands.{command_row, command_place}
use Rattle.rules.specs.declared.Exchange.{Exchange}
use Rattle.rules.specs.declared.Exchange.TheVariants.{Closed, Status, Read, Receive}
use Rattle.rules.specs.declared.Pod.{Pod}
use Rattle.rules.specs.State.{of_store, ring_of, remaining_of}
use Rattle.rules.specs.Obey.{shut, exchange_code, matches, drop_from, settled, acknowledged_of}
use Rattle.rules.specs.History.{same_store, acknowledged}
use Rattle.rules.proofs.Eventful.{Waits}
use Rattle.rules.proofs.Stores.{same_test}

-- what becomes of the pod, x being the exchange that was open, with what the history says of either store
pub data Settles (p : Pod) (first : ℕ) (one : Bool) (x : Exchange) : Pod → Type 0 where
  keeps : ((r : Store) → acknowledged r first one x ≡ false) → Settles p first one x (shut p)
  drops : (s : Store) → eqb (ring_of s p).waiting 0 ≡ false → eqb (remaining_of s p.fields) 0 ≡ false
      → ((r : Store) → acknowledged r first one x ≡ same_store r s) → Settles p first one x (shut (drop_from s p))

-- the pod goes by the code that the command's row has, the history by the number
coded : (s : Store) → exchange_code (Receive s) ≡ of_store s 0x95 0x96
unfolding command_row command_place
coded Priority = refl
coded Ordinary = refl

module _ (first : ℕ) (one : Bool) (p : Pod) where
  receive_acknowledged : (r s : Store) → acknowledged r first one (Receive s) ≡ (same_store r s && matches first one (Receive s))
  unfolding acknowledged matches
  receive_acknowledged r s = rw (coded s) (same_test (λ t. one && (eqb first (of_store t 0x95 0x96) || eqb first 0x90)) r s)

  settles_by : (x : Exchange) → Waits x p → Settles p first one x (shut (cond (matches first one x) (settled x p) p))
  unfolding settled acknowledged
  settles_by Closed h = by-test (λ q. Settles p first one Closed (shut q)) (matches first one Closed) (λ e. keeps (λ r. refl)) (λ e. keeps (λ r. refl))
  settles_by Status h = by-test (λ q. Settles p first one Status (shut q)) (matches first one Status) (λ e. keeps (λ r. refl)) (λ e. keeps (λ r. refl))
  settles_by Read h = by-test (λ q. Settles p first one Read (shut q)) (matches first one Read) (λ e. keeps (λ r. refl)) (λ e. keeps (λ r. refl))
  settles_by (Receive s) h =
      by-test (λ q. Settles p first one (Receive s) (shut q)) (matches first one (Receive s))
      (λ e. drops s h.0 h.1 (λ r. receive_acknowledged r s ∙ rw e (and-true (same_store r s))))
      (λ e. keeps (λ r. receive_acknowledged r s ∙ rw e (and-false (same_store r s))))

  pub settles : Waits p.exchange p → Settles p first one p.exchange (acknowledged_of first one p)
  unfolding acknowledged_of
  settles h = settles_by p.exchange h
