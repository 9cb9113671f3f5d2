-- The state is that of the history, and an acknowledgement where nothing waits or none remains leaves its store as it was.
-- Assumes nothing.
use Prim.Native.Nat.{ℕ}
use mathlib.Core.Path.{◌≡◌, refl}
use mathlib.Core.Bool.{Bool, true, ◌||◌}
use lib.Dec.{eqb}
use Rattle.rows.specs.Rows.{Clear}
use Rattle.rows.proofs.Laws.{never_both}
use Rattle.rows.proofs.Bool.{by-test}
use Rattle.blocks.specs.declared.Store.{Store}
use Rattle.blocks.specs.declared.Store.TheVariants.{Priority, Ordinary}
use Rattle.packets.specs.declared.Parsed.TheVariants.{Acknowledgement}
use Rattle.packets.specs.Reading.{packet_read}
use Rattle.rules.specs.declared.Exchange.{Exchange}
use Rattle.rules.specs.declared.Exchange.TheVariants.{Closed, Status, Read, Receive}
use Rattle.rules.specs.declared.Pod.{Pod}
use Rattle.rules.specs.State.{ring_of, remaining_of, fresh_fields, fresh_pod}
use Rattle.rules.specs.Obey.{matches, drop_from, settled, acknowledged_of}
use Rattle.rules.specs.Calls.{packet_heard, answered, spoken_bytes, reply_bytes}
use Rattle.rules.specs.World.{packet, Stepped, rows_of, powered}
use Rattle.rules.specs.History.{exchange_by}
use Rattle.rules.specs.Demands.{blank}
use Rattle.rules.specs.Kept.{AwakeIsHistory, FieldsAreHistory, ExchangeIsHistory, ParamsAreHistory, MarksAreHistory, DropGuarded, FreshIs}
use Rattle.rules.proofs.Happens.{Happens, by_rows, by_empty, by_damage, by_acknowledgement, by_check, by_command, happens}
use Rattle.rules.proofs.Histories.{history, powered_fresh}
use Rattle.rules.proofs.Holds.{awake_is, fields_are, Opened, exchange_kept, fresh_opened}
use Rattle.rules.proofs.Written.{value_is, mark_is}
use Rattle.rules.proofs.Answered.{answered_clear}

-- ---- history

pub awake_is_history : AwakeIsHistory
awake_is_history = awake_is

pub fields_are_history : FieldsAreHistory
fields_are_history = fields_are

pub exchange_is_history : ExchangeIsHistory
exchange_is_history l cs = (history exchange_by Opened exchange_kept cs (powered l) Closed (fresh_opened l)).exchange

pub params_are_history : ParamsAreHistory
params_are_history l cs id i = value_is id i l cs

pub marks_are_history : MarksAreHistory
marks_are_history l cs id i = mark_is id i l cs

-- ---- the acknowledgement

-- a store's blocks and remaining are those of another pod
abbrev SameIn : Store → Pod → Pod → Type 0
SameIn s p q = (ring_of s q ≡ ring_of s p) × (remaining_of s q.fields ≡ remaining_of s p.fields)

module _ (p : Pod) where
  abbrev guarded : Store → Bool
  guarded s = eqb (ring_of s p).waiting 0 || eqb (remaining_of s p.fields) 0

  -- a drop from a guarded store does nothing, and one from the other leaves this store
  drop_kept : (s r : Store) → guarded s ≡ true → SameIn s p (drop_from r p)
  unfolding drop_from
  drop_kept Priority Priority g = rw g (refl, refl)
  drop_kept Priority Ordinary g = by-test (SameIn Priority p) (guarded Ordinary) (λ e. (refl, refl)) (λ e. (refl, refl))
  drop_kept Ordinary Priority g = by-test (SameIn Ordinary p) (guarded Priority) (λ e. (refl, refl)) (λ e. (refl, refl))
  drop_kept Ordinary Ordinary g = rw g (refl, refl)

  settled-kept : (s : Store) (x : Exchange) → guarded s ≡ true → SameIn s p (settled x p)
  unfolding settled
  settled-kept s Closed g = (refl, refl)
  settled-kept s Status g = (refl, refl)
  settled-kept s Read g = (refl, refl)
  settled-kept s (Receive r) g = drop_kept s r g

  acknowledged-kept : (s : Store) (first : ℕ) (one : Bool) → guarded s ≡ true → SameIn s p (acknowledged_of first one p)
  unfolding acknowledged_of
  acknowledged-kept s first one g =
      by-test (SameIn s p) (matches first one p.exchange) (λ e. settled-kept s p.exchange g) (λ e. (refl, refl))

pub drop_guarded : DropGuarded
unfolding packet_heard answered spoken_bytes reply_bytes
drop_guarded s w b room first one a h g = on (happens w (packet b room)) (answered_clear w (packet b room) h) a
  where
    on : {t : Stepped} → Happens w (packet b room) t → Clear (rows_of w (packet b room)) → packet_read b ≡ Acknowledgement first one
        → SameIn s w.pod t.world.pod
    on (by_rows c n f) k r = never_both f k
    on (by_empty b room k e) q r = (refl, refl)
    on (by_damage b room d n k e) q r = (refl, refl)
    on (by_acknowledgement b room d m k e) q r = acknowledged-kept w.pod s d m g
    on (by_check b room c n k e f) q r = (refl, refl)
    on (by_command b room c k e f) q r = (cc, cc)

-- ---- from power

pub fresh_is : FreshIs
unfolding fresh_fields fresh_pod
fresh_is = rw (powered_fresh blank)
