-- Each table word's effect is what is heard of it.
-- Assumes nothing.
use Prim.Native.Nat.{ℕ, ◌+◌, ◌-◌}
use mathlib.Core.Path.{◌≡◌, refl}
use mathlib.Core.Bool.{Bool, or-true, or-false}
use lib.Dec.{ltb}
use lib.ListN.{set}
use Rattle.std.specs.Prelude.{Option, Some, None}
use Rattle.rows.proofs.Bool.{split}
use Rattle.tables.specs.declared.Words.{Words}
use Rattle.orders.specs.declared.Order.{Order}
use Rattle.orders.specs.declared.Order.TheVariants.{Stop, Restart, Next, Writing, Reading}
use Rattle.tables.specs.declared.Transfer.{Transfer}
use Rattle.tables.specs.declared.Transfer.TheVariants.{Idle, Address, Load, Read}
use Rattle.tables.specs.Tables.{Three, read_place}
use Rattle.orders.specs.Command.{order_heard}
use Rattle.tables.specs.Port.{Desk, tabled, with_transfer, close_of, is_open, begins_at, fits, read_opened_at, read_opened, restarted, order_obeyed, tables_after, command_of, wrong_way, load_right, load_judged, load_of, word_taken, data_in_of, read_next, word_given, data_out_of, status_of}
use Rattle.rules.specs.Families.{WordCall, command, data_in, data_out, status, word_of}
use Rattle.rules.specs.Heard.{Heard, word_heard}

-- the port and what is lent are what is heard, the tables having been t
pub record AsHeard (w : Words) (d : Desk) (t : Three) (h : Heard) : Type 0 where
  pub words : w ≡ h.words
  pub load : d.load ≡ h.load
  pub tables : d.tables ≡ h.tables t

leaves : {w : Words} {d : Desk} {t : Three} {h : Heard} → w ≡ h.words → d.load ≡ h.load → d.tables ≡ h.tables t → AsHeard w d t h
leaves p l s = record { words = p; load = l; tables = s }

-- a command word, by its order
ordered : (x : ℕ) (on : Bool) (w : Words) (d : Desk) (o : Option Order) → order_heard on x ≡ o
    → AsHeard (word_of (command x) on w d).pod (word_of (command x) on w d).lent d.tables (word_heard (command x) on w d.load)
unfolding word_of word_heard command_of order_obeyed close_of restarted read_opened read_opened_at tables_after
ordered x on w d None e = rw (e, or-true (is_open w.transfer), or-true w.error) (leaves refl refl refl)
ordered x on w d (Some Stop) e = rw (e, or-false (is_open w.transfer)) (leaves refl refl refl)
ordered x on w d (Some Restart) e = rw (e, or-false (is_open w.transfer)) (leaves refl refl refl)
ordered x on w d (Some Next) e = rw (e, or-false (is_open w.transfer)) (leaves refl refl refl)
ordered x on w d (Some (Writing t n)) e = rw (e, or-false (is_open w.transfer)) (leaves refl refl refl)
ordered x on w d (Some (Reading t n)) e =
    split (fits t (begins_at w.given (read_place t w.places)) (n - 3)) (λ f. rw (e, f, or-false (is_open w.transfer)) (leaves refl refl refl))
    (λ f. rw (e, f, or-true (is_open w.transfer), or-true w.error) (leaves refl refl refl))

-- a data word written, by the open transfer
taken : (x : ℕ) (on : Bool) (w : Words) (d : Desk) (u : Transfer)
    → AsHeard (word_taken u x (tabled w d)).words (word_taken u x (tabled w d)).desk d.tables (word_heard (data_in x) on (with_transfer u w) d.load)
unfolding word_heard word_taken wrong_way load_of load_judged
taken x on w d Idle = leaves refl refl refl
taken x on w d Address = leaves refl refl refl
taken x on w d (Load h k) =
    split (ltb (k + 1) h.n) (λ e. rw (e, or-false w.error) (leaves refl refl refl))
    (λ e. split (load_right h (set d.load k x)) (λ r. rw (e, r, or-false w.error) (leaves refl refl refl)) (λ r. rw (e, r, or-true w.error) (leaves refl refl refl)))
taken x on w d (Read h k at) = leaves refl refl refl

-- and a data word read
given_out : (on : Bool) (w : Words) (d : Desk) (u : Transfer)
    → AsHeard (word_given u w d.tables).words d d.tables (word_heard data_out on (with_transfer u w) d.load)
unfolding word_heard word_given wrong_way read_next
given_out on w d Idle = leaves refl refl refl
given_out on w d Address = leaves refl refl refl
given_out on w d (Load h k) = leaves refl refl refl
given_out on w d (Read h k at) = leaves refl refl refl

-- each table word
pub as_heard : (c : WordCall) (on : Bool) (w : Words) (d : Desk) → AsHeard (word_of c on w d).pod (word_of c on w d).lent d.tables (word_heard c on w d.load)
unfolding word_of word_heard data_in_of data_out_of status_of
as_heard (command x) on w d = ordered x on w d (order_heard on x) refl
as_heard (data_in x) on w d = taken x on w d w.transfer
as_heard data_out on w d = given_out on w d w.transfer
as_heard status on w d = leaves refl refl refl
