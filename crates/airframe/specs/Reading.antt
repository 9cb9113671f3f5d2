-- What an answer means to the aircraft, by the command that it answers.
-- Assumes nothing.
use Rattle.std.specs.Prelude.{ℕ, ◌≡◌, Bool, true, not, ◌&&◌, ◌||◌, cond, List, ◌∷◌, ◌++◌, ◌⊎◌, eqb, ℤ, length, get_or, take, drop, Result, Ok, Err}
use Rattle.rows.specs.Rows.{Said, refused, gave}
use Rattle.numbers.specs.Numbers.{high_first, number_at, signed_of}
use Rattle.packets.specs.declared.Command.{Command}
use Rattle.packets.specs.declared.Command.TheVariants.{Initialise, Status, Update, Write, Read, Priority, Data, Shutdown}
use Rattle.packets.specs.declared.Report.{Report}
use Rattle.packets.specs.Commands.{code_row, is_code}
use Rattle.packets.specs.Reading.{first, second, third, crc_right}
use Rattle.packets.specs.Answers.{answer_of, error_answer, done_answer, value_answer, data_answer}
use Rattle.airframe.specs.declared.Refusal.{Refusal}
use Rattle.airframe.specs.declared.Refusal.TheVariants.{Wrong}
use Rattle.airframe.specs.declared.Shown.{Shown}
use Rattle.airframe.specs.declared.Meaning.{Meaning}
use Rattle.airframe.specs.declared.Meaning.TheVariants.{Done, Error, State, Value, Block}
use Rattle.airframe.specs.Building.{refusal_number}

-- what an answer means: done; an error with its byte; a status with its request byte; a value with its id; a block
pub data Meant : Type 0 where
  done : Meant
  failed : ℕ → Meant
  status : Report → ℕ → Meant
  value : ℕ → ℤ → Meant
  block : List ℕ → Meant

-- "An answer whose CRC, first two bytes, length with them, or 0x7E where due is wrong for its command": an error has 5 bytes, a
-- success as many as the packet table says, that of a type 1 command with 0x7E; a code that is no command's has no right answer
unfoldable pub success_right : ℕ → List ℕ → Bool
success_right code a =
    eqb (second a) 0x01 && eqb (length a) (code_row code).answer && (eqb (code_row code).kind 2 || eqb (third a) 0x7E)

unfoldable pub answer_right : ℕ → List ℕ → Bool
answer_right code a =
    is_code code && crc_right a && eqb (first a) code
    && (eqb (second a) 0x09 && eqb (length a) 5 || success_right code a)

-- "The body of a data answer" is copied "from byte 2 on"
unfoldable pub block_in : List ℕ → List ℕ
block_in a = take 256 (drop 2 a)

-- "Status, bytes 2 to 19: mode, flags 2, priority blocks waiting 2, ordinary blocks waiting 4, request 0, eight ids"
unfoldable pub ids_in : List ℕ → List ℕ
ids_in a = take 8 (drop 12 a)

unfoldable pub report_in : List ℕ → Report
report_in a =
    record { mode = get_or a 2 0; flags = number_at a 3 2; priority = number_at a 5 2; ordinary = number_at a 7 4; ids = ids_in a }

unfoldable pub request_in : List ℕ → ℕ
request_in a = get_or a 11 0

-- the body of a success, by the command
unfoldable pub body_meant : Command → List ℕ → Meant
body_meant (Initialise f) a = done
body_meant Status a = status (report_in a) (request_in a)
body_meant (Update f) a = done
body_meant (Write id v) a = done
body_meant (Read id) a = value (get_or a 2 0) (signed_of 4 (number_at a 3 4))
body_meant Priority a = block (block_in a)
body_meant Data a = block (block_in a)
body_meant Shutdown a = done

-- "such a wrong answer (23)"; else an error's byte, or what the body shows
unfoldable pub read_as : ℕ → List ℕ → Said Meant
read_as code a =
    cond (not (answer_right code a)) (refused (refusal_number Wrong))
    (cond (eqb (second a) 0x09) (gave (failed (third a)))
    (gave (body_meant ((code_row code).command a) a)))

-- ---- the other way: the bytes of the answer that has a meaning, and the codes whose answers can have it

-- the body of a status with any request byte, where the pod's own has 0
unfoldable pub status_shown : Report → ℕ → List ℕ
status_shown r request =
    r.mode ∷ high_first 2 r.flags ++ high_first 2 r.priority ++ high_first 4 r.ordinary ++ request ∷ r.ids

unfoldable pub meant_bytes : ℕ → Meant → List ℕ
meant_bytes code done = done_answer code
meant_bytes code (failed e) = error_answer code e
meant_bytes code (status r request) = answer_of code 0x01 (status_shown r request)
meant_bytes code (value id v) = value_answer code id v
meant_bytes code (block b) = data_answer code b

-- an error to every command, each success to its own commands; a block has 256 bytes
unfoldable pub CanMean : ℕ → Meant → Type 0
CanMean code done = (code ≡ 0x90) ⊎ (code ≡ 0x92) ⊎ (code ≡ 0x93) ⊎ (code ≡ 0x9F)
CanMean code (failed e) = is_code code ≡ true
CanMean code (status r request) = code ≡ 0x91
CanMean code (value id v) = code ≡ 0x94
CanMean code (block b) = ((code ≡ 0x95) ⊎ (code ≡ 0x96)) × (length b ≡ 256)

-- ---- in document 01's numbers: what each meaning of the code stands for, beside the answer that it was read from

abbrev pub shown_report : Shown → List ℕ → Report
shown_report s ids = record { mode = s.mode; flags = s.flags; priority = s.priority; ordinary = s.ordinary; ids = ids }

unfoldable pub meaning_said : Result Meaning Refusal → List ℕ → Said Meant
meaning_said (Err why) a = refused (refusal_number why)
meaning_said (Ok Done) a = gave done
meaning_said (Ok (Error e)) a = gave (failed e)
meaning_said (Ok (State s)) a = gave (status (shown_report s (ids_in a)) s.request)
meaning_said (Ok (Value id v)) a = gave (value id v)
meaning_said (Ok Block) a = gave (block (block_in a))
