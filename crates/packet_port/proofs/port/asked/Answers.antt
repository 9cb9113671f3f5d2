-- The command leaves a sound pod, and a block that it shows waits.
use Rattle.std.proofs.Common.{ap, ◌∙◌}
use Rattle.rows.specs.Rows.{out}
use Rattle.tables.specs.Lent.{held}
use Rattle.rules.specs.State.{Lent, with_tables}
use Rattle.rules.specs.Obey.{reply_said}
use Rattle.commands.specs.Does.{restarts}
use Rattle.packet_port.specs.Port.{lent_by}
use Rattle.packet_port.proofs.Answering.{bare, obeyed_sound, obeyed_waits, tables_moved, replied_is}
use Rattle.packet_port.proofs.port.asked.Goals as goal

pub write_reply-requires-clause-ready : goal.write_reply-requires-clause-ready
write_reply-requires-clause-ready c =
    (c.requires.0, obeyed_sound c.args.command c.args.pod.now _ _ _ _ (rw c.shut.ensures at (c.obey_pod-reply.ensures bare)) c.requires.1)

pub write_reply-requires-clause-waits : goal.write_reply-requires-clause-waits
write_reply-requires-clause-waits c =
    obeyed_waits c.args.command c.args.pod.now _ _ _ _ (rw c.shut.ensures at (c.obey_pod-reply.ensures bare)) c.requires.1

pub returns-clause-does : goal.returns-clause-does
returns-clause-does c l =
    let a = c.args in
    let lent = lent_by a.stores l in
    let obeyed = rw c.shut.ensures at (c.obey_pod-reply.ensures (with_tables (held a.tables.now) lent)) in
    let moved = tables_moved (restarts a.command c.obey_pod-reply.result) (held a.tables.now) (held c.restart.new.tables) lent c.restart.ensures.does in
    replied_is a.first a.room.now _ (ap (λ (m : Lent). out (reply_said c.obey_pod-reply.result) c.obey_pod-reply.new.pod m) moved ∙ obeyed)
    (c.write_reply.ensures (with_tables (held c.restart.new.tables) l))
