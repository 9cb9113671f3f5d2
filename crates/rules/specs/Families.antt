-- Families of calls, each over the parts of the pod that it touches and what it is lent alone: table words, and calls lent nothing
-- that they may change.
-- Assumes nothing.
use Rattle.std.specs.Prelude.{ℕ, Bool, List, [], ◌∷◌}
use Rattle.rows.specs.Rows.{Row, Out, out}
use Rattle.tables.specs.declared.Words.{Words}
use Rattle.tables.specs.Tables.{Three}
use Rattle.tables.specs.Port.{Answered, Desk, Tabled, tabled, command_of, data_in_of, data_out_of, status_of}
use Rattle.pipe.specs.declared.Pipe.{Pipe}
use Rattle.pipe.specs.declared.Sent.{Sent}
use Rattle.pipe.specs.declared.Piped.{Piped}
use Rattle.pipe.specs.declared.Handed.{Handed}
use Rattle.pipe.specs.Input.{sent_packet, pipe_byte, pipe_timeout}
use Rattle.pipe.specs.Output.{output_packet, output_taken, output_timeout}
use Rattle.rules.specs.declared.Exchange.{Exchange}
use Rattle.rules.specs.declared.Exchange.TheVariants.{Closed}
use Rattle.rules.specs.Refusals.{Giving, done, reads, tables_row}

-- ---- the table words

pub data WordCall : Type 0 where
  command : ℕ → WordCall
  data_in : ℕ → WordCall
  data_out : WordCall
  status : WordCall

-- a word written, and a word read
abbrev pub word_written : Tabled → Out Giving Words Desk
word_written s = out done s.words s.desk

abbrev pub word_read : Answered → Desk → Out Giving Words Desk
word_read a d = out (reads a.word) a.words d

-- a Bool says whether the pod is initialised
unfoldable pub word_of : WordCall → Bool → Words → Desk → Out Giving Words Desk
word_of (command x) on w d = word_written (command_of on x (tabled w d))
word_of (data_in x) on w d = word_written (data_in_of x (tabled w d))
word_of data_out on w d = word_read (data_out_of w d.tables) d
word_of status on w d = word_read (status_of w) d

-- the rows of what it is lent: all but the status word are lent the tables
unfoldable pub word_lent : WordCall → Three → List Row
word_lent (command x) t = tables_row t ∷ []
word_lent (data_in x) t = tables_row t ∷ []
word_lent data_out t = tables_row t ∷ []
word_lent status t = []

-- ---- the byte pipe

pub data PipeCall : Type 0 where
  byte : ℕ → PipeCall
  timeout : PipeCall
  -- request No. 3: a packet from the aircraft for the camera, and the camera took the byte being shown
  packet_out : List ℕ → PipeCall
  taken : PipeCall

-- an effect that gives back no more than the bytes that it sends the aircraft or shows the camera: the call says done
abbrev pub Sends : Type 0 → Type 0
Sends P = Out (Unit {0}) P Sent

-- the pipe with one half moved and the other as it was, and what is given: of the input half, and of the output half
abbrev pub input_moved : Piped → Pipe → Sends Pipe
input_moved q p = out tt (record { input = q.input; output = p.output }) q.sent

abbrev pub output_moved : Handed → Pipe → Sends Pipe
output_moved q p = out tt (record { input = p.input; output = q.output }) q.sent

unfoldable pub pipe_of : PipeCall → Pipe → Sends Pipe
pipe_of (byte b) p = input_moved (pipe_byte p.input b) p
-- both halves time out; what is given is what the input sends
pipe_of timeout p = input_moved (pipe_timeout p.input) (record { input = p.input; output = output_timeout p.output })
pipe_of (packet_out b) p = output_moved (output_packet p.output b) p
pipe_of taken p = output_moved (output_taken p.output) p

-- ---- the calls that are lent nothing that they may change, and give back no more than what the pipe gives

pub data LoneCall : Type 0 where
  deadline : LoneCall
  pipe : PipeCall → LoneCall

-- all of the pod that such a call sees and touches
pub record Reach : Type 0 where
  pub exchange : Exchange
  pub pipe : Pipe

abbrev pub reach : Exchange → Pipe → Reach
reach x i = record { exchange = x; pipe = i }

unfoldable pub lone_of : LoneCall → Reach → Sends Reach
-- "So does the deadline call (2 ms passed)": it closes an open exchange, keeping the block
lone_of deadline r = out tt (reach Closed r.pipe) (sent_packet [])
lone_of (pipe c) r = let o = pipe_of c r.pipe in out tt (reach r.exchange o.pod) o.lent
