-- Refused by the first row that holds, or written.
use Rattle.std.proofs.lemmas.Result.{err_from_is_err_and}
use Rattle.airframe.specs.Building.{acknowledgement_built, built_said}
use Rattle.airframe.proofs.Lent.{shut, laid}
use Rattle.airframe.proofs.building.acknowledge.Goals as goal

pub returns-in_err-judged : goal.returns-in_err-judged
unfolding acknowledgement_built built_said
returns-in_err-judged c =
    let p = err_from_is_err_and c.from_residual.result c.from_residual.ensures.1 in
    rw (p.1, p.2, ← c.first_fits.ensures) (shut _ _ _ c.in_err-judged.ensures)

pub returns : goal.returns
unfolding acknowledgement_built built_said
returns c = rw (← c.first_fits.ensures) (laid _ _ _ c.in_ok-judged.ensures.0 c.in_ok-judged.ensures.1 _ _ c.write_form.ensures)
