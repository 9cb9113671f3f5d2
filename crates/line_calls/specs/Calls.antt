-- The call that a line asks, and what it makes of the world.
-- Assumes nothing.
use Rattle.std.specs.Prelude.{ℕ, List, [], take, Option, Some, None}
use Rattle.rows.specs.Rows.{gave}
use Rattle.rules.specs.Refusals.{done}
use Rattle.rules.specs.Families as family
use Rattle.rules.specs.World.{World, Call, Stepped, Told, stepped, step}
use Rattle.rules.specs.World as rules
use Rattle.lines.specs.declared.Line.{Line}
use Rattle.lines.specs.declared.Line.TheVariants as line
use Rattle.lines.specs.Asked.{Asked, packet, deadline, put, command, data_in, data_out, status, samples, ask_byte, ask_timeout, ask_out, ask_taken, power, other}

-- what a line that was read asks: its bytes and words are the first ones of those that lie in lent memory
unfoldable pub heard : Line → List ℕ → List ℕ → Asked
heard (line.Packet n) bs ws = packet (take n bs)
heard line.Deadline bs ws = deadline
heard (line.Put s n) bs ws = put s (take n bs)
heard (line.Command w) bs ws = command w
heard (line.Data w) bs ws = data_in w
heard line.Read bs ws = data_out
heard line.Status bs ws = status
heard (line.Samples k n) bs ws = samples k (take n ws)
heard (line.Byte b) bs ws = ask_byte b
heard line.Timeout bs ws = ask_timeout
heard (line.Out n) bs ws = ask_out (take n bs)
heard line.Taken bs ws = ask_taken
heard line.Power bs ws = power

-- and another line, which asks nothing
abbrev pub heard_line : Option Line → List ℕ → List ℕ → Asked
heard_line None bs ws = other
heard_line (Some l) bs ws = heard l bs ws

-- the call, with the answer room that it is lent; any other line calls nothing
unfoldable pub call_of : Asked → List ℕ → Option Call
call_of (packet bs) room = Some (rules.packet bs room)
call_of deadline room = Some (rules.lone family.deadline)
call_of (put s bs) room = Some (rules.put s bs)
call_of (command w) room = Some (rules.word (family.command w))
call_of (data_in w) room = Some (rules.word (family.data_in w))
call_of data_out room = Some (rules.word family.data_out)
call_of status room = Some (rules.word family.status)
call_of (samples k ws) room = Some (rules.samples k ws)
call_of (ask_byte b) room = Some (rules.lone (family.pipe (family.byte b)))
call_of ask_timeout room = Some (rules.lone (family.pipe family.timeout))
call_of (ask_out bs) room = Some (rules.lone (family.pipe (family.packet_out bs)))
call_of ask_taken room = Some (rules.lone (family.pipe family.taken))
call_of power room = Some rules.power
call_of other room = None

-- a call that is none changes nothing and tells nothing
abbrev pub step_if : Option Call → World → Stepped
step_if None w = stepped (gave done) [] w.pod w.lent
step_if (Some c) w = step w c

unfoldable pub line_step : Asked → List ℕ → World → Stepped
line_step a room w = step_if (call_of a room) w

-- the answer room after a line: a packet tells it, and no other call is lent it
unfoldable pub room_after : Asked → List ℕ → Told → List ℕ
room_after (packet bs) room t = t.bytes
room_after deadline room t = room
room_after (put s bs) room t = room
room_after (command w) room t = room
room_after (data_in w) room t = room
room_after data_out room t = room
room_after status room t = room
room_after (samples k ws) room t = room
room_after (ask_byte b) room t = room
room_after ask_timeout room t = room
room_after (ask_out bs) room t = room
room_after ask_taken room t = room
room_after power room t = room
room_after other room t = room
