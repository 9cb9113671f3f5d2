-- By what the packet is read as.
use Rattle.std.proofs.Common.{sym, ◌∙◌}
use Rattle.packets.proofs.Laws.{read_decided, asked_first}
use Rattle.rules.specs.Calls.{packet_heard, reply_bytes, spoken_bytes, answered}
use Rattle.packet_port.proofs.Answering.{asked_some, written_is}
use Rattle.packet_port.proofs.port.hear.Goals as goal

pub returns-in-Nothing-clause-does : goal.returns-in-Nothing-clause-does
unfolding packet_heard answered spoken_bytes
returns-in-Nothing-clause-does c l = rw (sym (read_decided _ _ c.read.ensures) ∙ c.in-Nothing.is)

pub returns-in-Error-clause-does : goal.returns-in-Error-clause-does
unfolding packet_heard answered spoken_bytes reply_bytes
returns-in-Error-clause-does c l =
    rw (sym (read_decided _ _ c.read.ensures) ∙ c.in-Error.is, c.shut.ensures) (written_is _ _ _ _ c.write_error.ensures)

pub returns-in-Acknowledgement-clause-does : goal.returns-in-Acknowledgement-clause-does
unfolding packet_heard answered spoken_bytes
returns-in-Acknowledgement-clause-does c l =
    rw (sym (read_decided _ _ c.read.ensures) ∙ c.in-Acknowledgement.is, c.acknowledged.ensures)

-- a command's packet is not empty
pub bounds-bytes-0 : goal.bounds-bytes-0
bounds-bytes-0 c = asked_some _ _ (sym (read_decided _ _ c.read.ensures) ∙ c.in-Asked.is)

pub returns-in-Asked-clause-does : goal.returns-in-Asked-clause-does
unfolding packet_heard
returns-in-Asked-clause-does c l =
    let is = sym (read_decided _ _ c.read.ensures) ∙ c.in-Asked.is in
    rw (is, asked_first _ _ is) (c.asked.ensures.does l)
