-- `tables::command`, by what was heard.
use Rattle.std.proofs.Common.{refl, rules}
use Rattle.tables.specs.Port.{order_obeyed, tables_after, restarted}
use Rattle.std.specs.Prelude.{Some, None}
use Rattle.orders.specs.declared.Order.TheVariants.{Stop, Restart, Next, Writing, Reading}
use Rattle.tables.proofs.Obeying.{done}
use Rattle.tables.proofs.command.Goals as goal

pub returns-in-None-clause-does : goal.returns-in-None-clause-does
unfolding order_obeyed tables_after
returns-in-None-clause-does c = done None _ _ _ _ _ _ _ (rw c.in-None.is at c.heard.ensures) c.close.ensures refl refl

pub returns-in-Some-Stop-clause-does : goal.returns-in-Some-Stop-clause-does
unfolding order_obeyed tables_after
returns-in-Some-Stop-clause-does c = done (Some Stop) _ _ _ _ _ _ _ (rw (c.in-Some-Stop.is, c.in-Some-Stop.field-0-is) at c.heard.ensures) c.close.ensures refl refl

pub returns-in-Some-Restart-clause-does : goal.returns-in-Some-Restart-clause-does
unfolding order_obeyed tables_after restarted
returns-in-Some-Restart-clause-does c = done (Some Restart) _ _ _ _ _ _ _ (rw (c.in-Some-Restart.is, c.in-Some-Restart.field-0-is) at c.heard.ensures) c.close.ensures (search rules) c.restart.ensures.started

pub returns-in-Some-Next-clause-does : goal.returns-in-Some-Next-clause-does
unfolding order_obeyed tables_after
returns-in-Some-Next-clause-does c = done (Some Next) _ _ _ _ _ _ _ (rw (c.in-Some-Next.is, c.in-Some-Next.field-0-is) at c.heard.ensures) c.close.ensures refl refl

pub returns-in-Some-Writing-clause-does : goal.returns-in-Some-Writing-clause-does
unfolding order_obeyed tables_after
returns-in-Some-Writing-clause-does c = done (Some (Writing _ _)) _ _ _ _ _ _ _ (rw (c.in-Some-Writing.is, c.in-Some-Writing.field-0-is) at c.heard.ensures) c.close.ensures refl refl

pub returns-in-Some-Reading-clause-does : goal.returns-in-Some-Reading-clause-does
unfolding order_obeyed tables_after
returns-in-Some-Reading-clause-does c = done (Some (Reading _ _)) _ _ _ _ _ _ _ (rw (c.in-Some-Reading.is, c.in-Some-Reading.field-0-is) at c.heard.ensures) c.close.ensures c.read.ensures refl
