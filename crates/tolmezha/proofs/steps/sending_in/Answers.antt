-- By the code, and by how many sends there are.
use native.Mathlib.Omega.{arith}
use borrow.Author.Tests.{le-ltb, lt-ltb, ne_eqb}
use lib.ListN.{get_or}
use Rattle.tolmezha.specs.Numbers.{sending_in}
use Rattle.tolmezha.proofs.steps.sending_in.Goals as goal

pub returns-in_default : goal.returns-in_default
unfolding sending_in
returns-in_default c = rw (le-ltb (get_or c.args.state 0 0) 256 (omega (arith, c.in_default.ensures)))

pub returns-in-1 : goal.returns-in-1
unfolding sending_in
returns-in-1 c = rw (lt-ltb (get_or c.args.state 0 0) 256 c.in-Ok.ensures.0, c.in-1.is, c.in-Ok.ensures.1)

pub returns-in-2 : goal.returns-in-2
unfolding sending_in
returns-in-2 c = rw (lt-ltb (get_or c.args.state 0 0) 256 c.in-Ok.ensures.0, c.in-2.is, c.in-Ok.ensures.1)

pub returns-in-3 : goal.returns-in-3
unfolding sending_in
returns-in-3 c = rw (lt-ltb (get_or c.args.state 0 0) 256 c.in-Ok.ensures.0, c.in-3.is, c.in-Ok.ensures.1)

pub returns-in-4 : goal.returns-in-4
unfolding sending_in
returns-in-4 c = rw (lt-ltb (get_or c.args.state 0 0) 256 c.in-Ok.ensures.0, c.in-4.is, c.in-Ok.ensures.1)

pub returns-in_default-state : goal.returns-in_default-state
unfolding sending_in
returns-in_default-state c =
    let n = get_or c.args.state 1 0 in
    rw (lt-ltb (get_or c.args.state 0 0) 256 c.in-Ok.ensures.0, ne_eqb n 1 (λ e. omega arith), ne_eqb n 2 (λ e. omega arith), ne_eqb n 3 (λ e. omega arith), ne_eqb n 4 (λ e. omega arith))
