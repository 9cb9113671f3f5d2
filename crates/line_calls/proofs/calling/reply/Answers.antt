-- By the line: each call promises its definition, and what it says is printed behind the line's letter.
use Rattle.std.proofs.Common.{arith, rules, refl, ap, length}
use lib.ListN.{length-take}
use Rattle.blocks.specs.declared.Store.TheVariants.{Priority, Ordinary}
use Rattle.tables.specs.Tables.{three}
use Rattle.tables.specs.Port.{desk}
use Rattle.line_calls.specs.Calls.{heard}
use Rattle.line_calls.specs.Memory.{memory, lent_in}
use Rattle.line_calls.proofs.Steps.{answered_as, by_deadline, by_power, by_put, by_packet, by_samples, by_byte, by_timeout, by_out, by_taken, by_command, by_data, by_read, by_status}
use Rattle.line_calls.proofs.Asks.{heard_as, packet_asked, out_asked, put_asked, samples_asked}
use Rattle.line_calls.proofs.calling.reply.Goals as goal

pub put_count-requires : goal.put_count-requires
put_count-requires c =
    (omega (arith, ap length c.front.ensures.result_value, length-take 260 c.packet-count.new.room), omega arith)

pub returns-in-Packet : goal.returns-in-Packet
unfolding heard
returns-in-Packet c =
    let a = c.args in
    let m = memory a.room.now a.priority.now a.ordinary.now a.five.now a.six.now a.seven.now a.load.now in
    answered_as (packet_asked a.bytes.now a.words.now c.in-Packet.is c.front-bytes.ensures.result_value)
    (by_packet a.pod.now m _ _ _ _ _ _ _ _ _ (c.packet-count.ensures (lent_in m)) (rw c.front.ensures.result_value at c.put_count.ensures))

pub returns-in-Deadline : goal.returns-in-Deadline
unfolding heard
returns-in-Deadline c =
    let a = c.args in
    let m = memory a.room.now a.priority.now a.ordinary.now a.five.now a.six.now a.seven.now a.load.now in
    answered_as (heard_as a.bytes.now a.words.now c.in-Deadline.is) (by_deadline a.pod.now m _ _ _ _ c.deadline.ensures c.put_done.ensures)

pub returns-in-Put-Priority-default : goal.returns-in-Put-Priority-default
unfolding heard
returns-in-Put-Priority-default c =
    let a = c.args in
    let m = memory a.room.now a.priority.now a.ordinary.now a.five.now a.six.now a.seven.now a.load.now in
    answered_as (put_asked a.bytes.now a.words.now c.in-Put-Priority-default.is (search rules) c.front-in-Put-Priority-default.ensures.result_value)
    (by_put a.pod.now m _ _ _ _ Priority _ _ c.put.ensures c.put_done-in-Put-Priority-default.ensures)

pub returns-in-Put-Ordinary-default : goal.returns-in-Put-Ordinary-default
unfolding heard
returns-in-Put-Ordinary-default c =
    let a = c.args in
    let m = memory a.room.now a.priority.now a.ordinary.now a.five.now a.six.now a.seven.now a.load.now in
    answered_as (put_asked a.bytes.now a.words.now c.in-Put-Ordinary-default.is (search rules) c.front-in-Put-Ordinary-default.ensures.result_value)
    (by_put a.pod.now m _ _ _ _ Ordinary _ _ c.put-in-Put-Ordinary-default.ensures c.put_done-in-Put-Ordinary-default.ensures)

pub returns-in-Command : goal.returns-in-Command
unfolding heard
returns-in-Command c =
    let a = c.args in
    let m = memory a.room.now a.priority.now a.ordinary.now a.five.now a.six.now a.seven.now a.load.now in
    answered_as (heard_as a.bytes.now a.words.now c.in-Command.is) (by_command a.pod.now m _ _ _ _ _ _ _ _ (c.command_word.ensures a.load.now) c.put_done-in-Command.ensures)

pub returns-in-Data : goal.returns-in-Data
unfolding heard
returns-in-Data c =
    let a = c.args in
    let m = memory a.room.now a.priority.now a.ordinary.now a.five.now a.six.now a.seven.now a.load.now in
    answered_as (heard_as a.bytes.now a.words.now c.in-Data.is) (by_data a.pod.now m _ _ _ _ _ _ _ _ _ c.data_in.ensures c.put_done-in-Data.ensures)

pub returns-in-Read : goal.returns-in-Read
unfolding heard
returns-in-Read c =
    let a = c.args in
    let m = memory a.room.now a.priority.now a.ordinary.now a.five.now a.six.now a.seven.now a.load.now in
    answered_as (heard_as a.bytes.now a.words.now c.in-Read.is) (by_read a.pod.now m _ _ _ _ (c.data_out.ensures a.load.now) c.put_word.ensures)

pub returns-in-Status : goal.returns-in-Status
unfolding heard
returns-in-Status c =
    let a = c.args in
    let m = memory a.room.now a.priority.now a.ordinary.now a.five.now a.six.now a.seven.now a.load.now in
    answered_as (heard_as a.bytes.now a.words.now c.in-Status.is)
    (by_status a.pod.now m _ _ _ _ (c.status_word.ensures (desk (three a.five.now a.six.now a.seven.now) a.load.now)) c.put_word-in-Status.ensures)

pub returns-in-Samples : goal.returns-in-Samples
unfolding heard
returns-in-Samples c =
    let a = c.args in
    let m = memory a.room.now a.priority.now a.ordinary.now a.five.now a.six.now a.seven.now a.load.now in
    answered_as (samples_asked a.bytes.now a.words.now c.in-Samples.is c.front-in-Samples.ensures.result_value)
    (by_samples a.pod.now m _ _ _ _ _ _ _ refl c.samples.ensures c.put_framed.ensures)

pub returns-in-Byte : goal.returns-in-Byte
unfolding heard
returns-in-Byte c =
    let a = c.args in
    let m = memory a.room.now a.priority.now a.ordinary.now a.five.now a.six.now a.seven.now a.load.now in
    answered_as (heard_as a.bytes.now a.words.now c.in-Byte.is) (by_byte a.pod.now m _ _ _ _ _ _ c.pipe_byte.ensures c.put_passed.ensures)

pub returns-in-Timeout : goal.returns-in-Timeout
unfolding heard
returns-in-Timeout c =
    let a = c.args in
    let m = memory a.room.now a.priority.now a.ordinary.now a.five.now a.six.now a.seven.now a.load.now in
    answered_as (heard_as a.bytes.now a.words.now c.in-Timeout.is) (by_timeout a.pod.now m _ _ _ _ _ c.pipe_timeout.ensures c.put_passed-in-Timeout.ensures)

pub returns-in-Out : goal.returns-in-Out
unfolding heard
returns-in-Out c =
    let a = c.args in
    let m = memory a.room.now a.priority.now a.ordinary.now a.five.now a.six.now a.seven.now a.load.now in
    answered_as (out_asked a.bytes.now a.words.now c.in-Out.is c.front-in-Out.ensures.result_value)
    (by_out a.pod.now m _ _ _ _ _ _ c.packet_out.ensures c.put_passed-in-Out.ensures)

pub returns-in-Taken : goal.returns-in-Taken
unfolding heard
returns-in-Taken c =
    let a = c.args in
    let m = memory a.room.now a.priority.now a.ordinary.now a.five.now a.six.now a.seven.now a.load.now in
    answered_as (heard_as a.bytes.now a.words.now c.in-Taken.is) (by_taken a.pod.now m _ _ _ _ _ c.taken.ensures c.put_passed-in-Taken.ensures)

pub returns-in-Power : goal.returns-in-Power
unfolding heard
returns-in-Power c =
    let a = c.args in
    let m = memory a.room.now a.priority.now a.ordinary.now a.five.now a.six.now a.seven.now a.load.now in
    answered_as (heard_as a.bytes.now a.words.now c.in-Power.is) (by_power a.pod.now m _ _ _ _ _ _ _ c.power_on.ensures c.put_done-in-Power.ensures)
