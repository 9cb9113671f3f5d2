-- What each call does, by the order that was heard and the transfer that is open.
use mathlib.Core.Path.{◌≡◌, sym, ap}
use mathlib.Core.Bool.{Bool}
use Prim.Native.Nat.{ℕ}
use mathlib.Core.List.{List}
use Rattle.tables.specs.declared.Words.{Words}
use Rattle.std.specs.Prelude.{Option}
use Rattle.orders.specs.declared.Order.{Order}
use Rattle.tables.specs.declared.Transfer.{Transfer}
use Rattle.tables.specs.Tables.{Three}
use Rattle.orders.specs.Command.{order_heard, order_said}
use Rattle.orders.proofs.Orders.{order_said_one}
use Rattle.tables.specs.Port.{desk, Tabled, tabled, close_of, order_obeyed, tables_after, command_of, word_taken, data_in_of, word_given, data_out_of}

-- a command word closes what is open, and then does what it asks for
pub obeyed : (o : Option Order) (on : Bool) (word : ℕ) (s : Tabled) → order_heard on word ≡ o
    → command_of on word s ≡ tabled (order_obeyed o (close_of s.words)) (desk (tables_after o s.desk.tables) s.desk.load)
unfolding command_of
obeyed o on word s h = rw h

-- and so it does by what was heard, told by its numbers
pub done : (o : Option Order) (on : Bool) (word : ℕ) (w closed next : Words) (t after : Three) → order_said o ≡ order_said (order_heard on word)
    → closed ≡ close_of w → next ≡ order_obeyed o closed → after ≡ tables_after o t
    → (l : List ℕ) → tabled next (desk after l) ≡ command_of on word (tabled w (desk t l))
done o on word w closed next t after said closes e f l =
    let heard = obeyed o on word (tabled w (desk t l)) (sym (order_said_one _ _ said)) in
    cc

-- a data word written goes to the open transfer
pub taken_by : (t : Transfer) (x : ℕ) (s : Tabled) → s.words.transfer ≡ t → data_in_of x s ≡ word_taken t x s
unfolding data_in_of
taken_by t x s h = ap (λ (u : Transfer). word_taken u x s) h

-- and a data word read comes from it
pub given_by : (t : Transfer) (w : Words) (s : Three) → w.transfer ≡ t → data_out_of w s ≡ word_given t w s
unfolding data_out_of
given_by t w s h = ap (λ (u : Transfer). word_given u w s) h
