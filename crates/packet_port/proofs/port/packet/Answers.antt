-- A packet is refused by the rows of its room and its stores, and else heard.
use Rattle.std.proofs.Common.{◌≡◌, ◌∙◌, arith}
use Rattle.std.specs.Prelude.{Err}
use Rattle.std.proofs.lemmas.Grind.{common_steps}
use Rattle.rows.proofs.Laws.{refused_is}
use Rattle.rules.specs.Refusals.{said}
use Rattle.rules.specs.Calls.{packet_call}
use Rattle.packet_port.proofs.Answering.{sized_is}
use Rattle.packet_port.proofs.port.packet.Goals as goal

pub returns-in_err-stores : goal.returns-in_err-stores
unfolding packet_call said
returns-in_err-stores c l =
    let e : c.from_residual.result ≡ Err c.in_err-stores.field-0.0 = grind (arith, common_steps) in
    rw e (refused_is _ _ _ (c.in_err-stores.ensures _ l _))

pub returns : goal.returns
returns c l =
    let k = c.in_ok-stores.ensures in
    rw (k.3, k.4) at (c.heard.ensures l) ∙ sized_is _ _ _ _ _ l _ k.0 k.1 k.2
