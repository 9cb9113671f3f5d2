-- What a command word asks for: a load or a read is no other order, and the numbers are one-to-one.
use mathlib.Core.Path.{◌≡◌, refl, sym, ap, ◌∙◌}
use mathlib.Core.Bool.{true, false, not, cond}
use borrow.Author.Tests.{ne_eqb}
use native.Mathlib.Omega.{arith}
use mathlib.Core.List.{List}
use Prim.Native.Nat.{ℕ, ◌<◌}
use lib.Dec.{eqb}
use lib.ListN.{length, get_or}
use Rattle.std.specs.Prelude.{Option, Some, None}
use Rattle.orders.specs.declared.Table.{Table}
use Rattle.orders.specs.declared.Table.TheVariants.{Five, Six, Seven}
use Rattle.orders.specs.declared.Order.{Order}
use Rattle.orders.specs.declared.Order.TheVariants.{Stop, Restart, Next, Writing, Reading}
use Rattle.orders.specs.declared.Parts.{Parts}
use Rattle.orders.specs.Command.{writes, length_allowed, table_asked, order_of, order_said}
use Rattle.rows.proofs.Bool.{and-false}
use Rattle.orders.proofs.Lengths.{allowed_has}

-- N 4 to 64 is no other N
other_length : (p : Parts) (c n : ℕ) → n < 4 → length_allowed p.n ≡ true → writes p c n ≡ false
other_length p c n h e =
    rw (ne_eqb p.n n (λ z. let least = (allowed_has p.n e).least in omega arith), and-false (eqb p.command c), and-false (not p.reads))

-- so with N 4 to 64 a word is a table's or none
pub is_table : (p : Parts) → not p.odd ≡ false → length_allowed p.n ≡ true → order_of p ≡ table_asked p
unfolding order_of
is_table p odd e =
    rw (odd, other_length p 0 0 (omega arith) e, other_length p 0 1 (omega arith) e, other_length p 1 1 (omega arith) e, e)

-- ---- the numbers

-- an order read back from its numbers
table_back : ℕ → Table
table_back c = cond (eqb c 5) Five (cond (eqb c 6) Six Seven)

numbered : ℕ → ℕ → ℕ → Order
numbered direction c n =
    cond (eqb direction 1) (Reading (table_back c) n)
    (cond (eqb c 0) (cond (eqb n 0) Stop Restart)
    (cond (eqb c 1) Next (Writing (table_back c) n)))

said_back : List ℕ → Option Order
said_back l = cond (eqb (length l) 0) None (Some (numbered (get_or l 0 0) (get_or l 1 0) (get_or l 2 0)))

read_back : (o : Option Order) → said_back (order_said o) ≡ o
unfolding said_back numbered table_back order_said
read_back None = refl
read_back (Some Stop) = refl
read_back (Some Restart) = refl
read_back (Some Next) = refl
read_back (Some (Writing Five n)) = refl
read_back (Some (Writing Six n)) = refl
read_back (Some (Writing Seven n)) = refl
read_back (Some (Reading Five n)) = refl
read_back (Some (Reading Six n)) = refl
read_back (Some (Reading Seven n)) = refl

-- two orders with the same numbers are one
pub order_said_one : (a b : Option Order) → order_said a ≡ order_said b → a ≡ b
order_said_one a b e = sym (read_back a) ∙ ap said_back e ∙ read_back b
