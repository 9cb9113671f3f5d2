-- Closing a transfer, and a port that nobody may open one on.
use mathlib.Core.Path.{◌≡◌, refl}
use mathlib.Core.Bool.{false}
use Prim.Native.Nat.{ℕ}
use Rattle.tables.specs.declared.Words.{Words}
use Rattle.std.specs.Prelude.{None}
use Rattle.tables.specs.declared.Transfer.TheVariants.{Idle}
use Rattle.tables.specs.Tables.{Three}
use Rattle.orders.specs.Command.{order_heard}
use Rattle.tables.specs.Port.{Tabled, tabled, answer, close_of, wrong_way, order_obeyed, tables_after, command_of, word_taken, data_in_of, word_given, data_out_of}
use Rattle.tables.proofs.Obeying.{obeyed, taken_by, given_by}

-- after closing, no transfer is open
pub close_idle : (w : Words) → (close_of w).transfer ≡ Idle
unfolding close_of
close_idle w = refl

-- nor after a data word the wrong way
pub wrong_idle : (w : Words) → (wrong_way w).transfer ≡ Idle
unfolding wrong_way
wrong_idle w = refl

-- a command word while not initialised closes what is open, sets message error, and does no more, whatever it says
pub off-command : (word : ℕ) (s : Tabled) → command_of false word s ≡ tabled (wrong_way s.words) s.desk
unfolding order_heard order_obeyed tables_after close_of wrong_way
off-command word s = obeyed None false word s refl

-- a data word written with nothing open sets message error and does no more
pub idle_in : (x : ℕ) (s : Tabled) → s.words.transfer ≡ Idle → data_in_of x s ≡ tabled (wrong_way s.words) s.desk
unfolding word_taken
idle_in x s h = taken_by Idle x s h

-- a data word read with nothing open reads as 0, whatever the tables hold
pub idle_out : (w : Words) (s : Three) → w.transfer ≡ Idle → data_out_of w s ≡ answer 0 (wrong_way w)
unfolding word_given
idle_out w s h = given_by Idle w s h
