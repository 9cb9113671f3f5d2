use Rattle.std.proofs.Common.{rules, ◌≡◌, true, false, get_or, arith, suc}
use Rattle.params.specs.Rows.{param_rows, no_param_row}
use Rattle.params.specs.Rules.{filter, start_params}
use Rattle.params.proofs.Missing.{passing, asked_here, not_asked_here}
use Rattle.params.proofs.asked_ids.Goals as goal
use Rattle.params.proofs.asked_ids.Goals.{then-row, else-row}

pub loop-i-init : goal.loop-i-init
unfolding passing filter start_params
loop-i-init c = search rules

-- where an id is stored there is room for it
pub bounds-out-n : goal.bounds-out-n
bounds-out-n c =
    let at = c.loop-i in
    let asked : (get_or param_rows at.i no_param_row).asked ≡ true = search rules in
    omega (arith, rw (asked_here at.i (search rules) asked) at at.invariant.room)

pub loop-i-preserved : goal.loop-i-preserved
loop-i-preserved c =
    let at = c.loop-i in
    elim c.if-row.branch [
      | then-row w ↦
          let asked : (get_or param_rows at.i no_param_row).asked ≡ true = search rules in
          let rest = asked_here at.i (search rules) asked in
          let turn = rw rest at at.invariant.left in
          let more : c.if-row.n ≡ suc at.n = omega arith in
          record { room = omega (arith, rw rest at at.invariant.room); left = cc }
      | else-row w ↦
          let other : (get_or param_rows at.i no_param_row).asked ≡ false = search rules in
          let rest = not_asked_here at.i (search rules) other in
          record { room = omega (arith, rw rest at at.invariant.room); left = cc (rw rest at at.invariant.left) }
    ]

pub returns : goal.returns
unfolding passing filter
returns c =
    let last : c.loop-i.i ≡ 12 = omega arith in
    rw last at c.loop-i.invariant.left
