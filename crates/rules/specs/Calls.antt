-- Each call is its rows and its effect, over what it is lent. What is given back by value counts as lent: it comes as nothing.
-- Assumes nothing.
use Rattle.std.specs.Prelude.{ℕ, List, [], ◌∷◌, ◌++◌, length, replicate, Result, Ok, Err}
use Rattle.std.proofs.lemmas.List.Edits.{sets}
use Rattle.rows.specs.Rows.{Row, Said, refused, gave, Out as Left, out, ran}
use Rattle.blocks.specs.declared.Store.{Store}
use Rattle.blocks.specs.Stores.{capacity_of, oldest_of, put_ring, put_store}
use Rattle.packets.specs.declared.Parsed.{Parsed}
use Rattle.packets.specs.declared.Parsed.TheVariants.{Nothing, Error, Acknowledgement, Asked}
use Rattle.packets.specs.Commands.{command_row}
use Rattle.packets.specs.Reading.{packet_read}
use Rattle.packets.specs.Answers.{answer_of, error_answer, status_body, value_body}
use Rattle.tables.specs.declared.Words.{Words}
use Rattle.tables.specs.Tables.{Three, starts}
use Rattle.tables.specs.Port.{Desk}
use Rattle.pipe.specs.declared.Sent.{Sent}
use Rattle.pipe.specs.Input.{sent_packet}
use Rattle.frames.specs.declared.Frames.{Frames}
use Rattle.frames.specs.Layout.{frames_of}
use Rattle.rules.specs.declared.Pod.{Pod}
use Rattle.rules.specs.declared.Refusal.{Refusal}
use Rattle.rules.specs.State.{Lent, store_in, with_exchange, with_words, with_ring, with_pipe, ring_of, fresh_pod}
use Rattle.rules.specs.Obey.{Meant, success, report, value, block, shut, obey_of, acknowledged_of, report_of}
use Rattle.rules.specs.Refusals.{Giving, done, bytes, Out, room_row, all_row, store_row, tables_row, state_row, block_row, set_row, over_row, asleep_row, full_row, busy_row, eight_row}
use Rattle.rules.specs.Families.{WordCall, word_of, word_lent, Sends, PipeCall, byte, timeout, packet_out, taken, LoneCall, deadline, pipe, Reach, reach, lone_of}

-- ---- power on: lent the tables

abbrev pub power_rows : Three → List Row
power_rows t = tables_row t ∷ []

-- "Fresh from power"; refused, it hands the pod back as it came
unfoldable pub power_call : Three → Pod → Out Three
power_call t p = ran (power_rows t) p t (out done fresh_pod starts)

-- ---- a packet: lent the answer room, and all else but the words of a load

pub record Roomed : Type 0 where
  pub room : List ℕ
  pub lent : Lent

abbrev pub roomed : List ℕ → Lent → Roomed
roomed r l = record { room = r; lent = l }

-- what a packet is answered: nothing, or a first byte with an error number or what is meant
pub data Spoken : Type 0 where
  silent : Spoken
  says : ℕ → Said Meant → Spoken

-- a command's reply under its code
abbrev pub replied : ℕ → Left (Said Meant) Pod Lent → Left Spoken Pod Lent
replied first o = out (says first o.said) o.pod o.lent

-- "Empty packet: answer of length 0, no change"; "Every other non-empty packet closes an open exchange first"
unfoldable pub packet_heard : Parsed → Lent → Pod → Left Spoken Pod Lent
packet_heard Nothing l p = out silent p l
packet_heard (Error first n) l p = out (says first (refused n)) (shut p) l
packet_heard (Acknowledgement first one) l p = out silent (acknowledged_of first one p) l
packet_heard (Asked c) l p = replied (command_row c).code (obey_of c l (shut p))

-- the body of what is meant: "first byte, 0x01, 0x7E, CRC; of a type 2 command: first byte, 0x01, the body, CRC"; "the body of a
-- data answer is shown as a part of whichever store it came from"
unfoldable pub meant_body : Meant → Pod → Lent → List ℕ
meant_body success p l = 0x7E ∷ []
meant_body report p l = status_body (report_of p)
meant_body (value id v) p l = value_body id v
meant_body (block s) p l = oldest_of (capacity_of s) (ring_of s p) (store_in s l)

unfoldable pub reply_bytes : ℕ → Said Meant → Pod → Lent → List ℕ
reply_bytes first (refused n) p l = error_answer first n
reply_bytes first (gave m) p l = answer_of first 0x01 (meant_body m p l)

unfoldable pub spoken_bytes : Spoken → Pod → Lent → List ℕ
spoken_bytes silent p l = []
spoken_bytes (says first r) p l = reply_bytes first r p l

-- "An answer is written from the start of the answer room; the rest of the room is kept."
abbrev pub written : List ℕ → List ℕ → Pod → Lent → Left Giving Pod Roomed
written answer room p l = out (bytes (length answer)) p (roomed (sets room 0 answer) l)

unfoldable pub answered : Left Spoken Pod Lent → List ℕ → Left Giving Pod Roomed
answered o room = written (spoken_bytes o.said o.pod o.lent) room o.pod o.lent

abbrev pub packet_rows : Roomed → Pod → List Row
packet_rows d p = room_row d.room ∷ all_row d.lent ∷ state_row p ∷ []

unfoldable pub packet_call : List ℕ → Roomed → Pod → Out Roomed
packet_call b d p = ran (packet_rows d p) p d (answered (packet_heard (packet_read b) d.lent p) d.room)

-- ---- a block from the camera: lent its store

abbrev pub put_rows : Store → List ℕ → List ℕ → Pod → List Row
put_rows s b store p = store_row s store ∷ state_row p ∷ block_row b ∷ asleep_row p ∷ full_row s p ∷ []

-- "The camera's put adds a block behind the others"
abbrev pub shelved : Store → List ℕ → List ℕ → Pod → Left Giving Pod (List ℕ)
shelved s b store p = out done (with_ring s (put_ring (ring_of s p)) p) (put_store (capacity_of s) (ring_of s p) store b)

unfoldable pub put_call : Store → List ℕ → List ℕ → Pod → Out (List ℕ)
put_call s b store p = ran (put_rows s b store p) p store (shelved s b store p)

-- ---- a table word: lent the tables, the data word in also the words of a load

abbrev pub word_rows : WordCall → Three → Pod → List Row
word_rows c t p = word_lent c t ++ (state_row p ∷ [])

abbrev pub worded : Left Giving Words Desk → Pod → Left Giving Pod Desk
worded o p = out o.said (with_words o.pod p) o.lent

unfoldable pub word_call : WordCall → Desk → Pod → Out Desk
word_call c d p = ran (word_rows c d.tables p) p d (worded (word_of c p.initialised p.words d) p)

-- ---- the deadline and the byte pipe, lent nothing that they may change: what is given comes as nothing

-- "22 before 6, 21 last": the order is request No. 3's own, and does not rise
abbrev pub pipe_rows : PipeCall → Pod → List Row
pipe_rows (byte b) p = asleep_row p ∷ []
pipe_rows timeout p = asleep_row p ∷ []
pipe_rows (packet_out b) p = eight_row b ∷ asleep_row p ∷ busy_row p ∷ []
pipe_rows taken p = asleep_row p ∷ []

abbrev pub lone_rows : LoneCall → Pod → List Row
lone_rows deadline p = state_row p ∷ []
lone_rows (pipe c) p = state_row p ∷ pipe_rows c p

abbrev pub reach_of : Pod → Reach
reach_of p = reach p.exchange p.pipe

abbrev pub reached : Sends Reach → Pod → Left Giving Pod Sent
reached o p = out done (with_pipe o.pod.pipe (with_exchange o.pod.exchange p)) o.lent

unfoldable pub lone_call : LoneCall → Pod → Out Sent
lone_call c p = ran (lone_rows c p) p (sent_packet []) (reached (lone_of c (reach_of p)) p)

-- what a result gives of the pipe: refused, nothing
abbrev pub sent_in : Result Sent Refusal → Sent
sent_in (Ok s) = s
sent_in (Err why) = sent_packet []

-- ---- samples: the frames come as zeros

abbrev pub no_frames : Frames
no_frames = record { an03 = replicate 8 0; an47 = replicate 8 0 }

-- the frames that a result gives: refused, as they came
abbrev pub framed_in : Result Frames Refusal → Frames
framed_in (Ok f) = f
framed_in (Err why) = no_frames

abbrev pub samples_rows : ℕ → List ℕ → Pod → List Row
samples_rows check xs p = state_row p ∷ set_row xs ∷ over_row check xs ∷ []

-- a sample set with a self-check number gives the two frames, and changes nothing
abbrev pub framed : ℕ → List ℕ → Pod → Left Giving Pod Frames
framed check xs p = out done p (frames_of 16 xs p.pipe p.initialised check)

unfoldable pub samples_call : ℕ → List ℕ → Pod → Out Frames
samples_call check xs p = ran (samples_rows check xs p) p no_frames (framed check xs p)
