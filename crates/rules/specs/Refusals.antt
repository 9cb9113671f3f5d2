-- "Refused calls": document 01's numbers and rows, request No. 3's two, and results in these numbers.
-- Assumes nothing.
use Rattle.std.specs.Prelude.{ℕ, not, ◌&&◌, List, ltb, leb, eqb, length, Result, Ok, Err}
use Rattle.rows.specs.Rows.{Row, row, Said, refused, gave, Out as Left}
use Rattle.blocks.specs.declared.Store.{Store}
use Rattle.blocks.specs.declared.Store.TheVariants.{Priority, Ordinary}
use Rattle.blocks.specs.Stores.{capacity_of, store_sized}
use Rattle.tables.specs.Tables.{Three, tables_sized}
use Rattle.pipe.specs.Output.{busy_of}
use Rattle.frames.specs.Samples.{bounded_of}
use Rattle.rules.specs.declared.Pod.{Pod}
use Rattle.rules.specs.declared.Refusal.{Refusal}
use Rattle.rules.specs.declared.Refusal.TheVariants.{Room, Size, State, Count, Over, Asleep, Full, Busy, Eight}
use Rattle.rules.specs.declared.Answer.{Answer}
use Rattle.rules.specs.declared.Answer.TheVariants.{Done, Length, Word}
use Rattle.rules.specs.State.{Lent, ring_of, sound_pod}

-- ---- what is said

-- what a call gives that is not refused: done, the length of an answer, a word
pub data Giving : Type 0 where
  done : Giving
  bytes : ℕ → Giving
  reads : ℕ → Giving

-- what a call leaves: what it says, the pod, and what was lent
abbrev pub Out : Type 0 → Type 0
Out L = Left (Said Giving) Pod L

-- "No.": the number of each refusal
unfoldable pub refusal_number : Refusal → ℕ
refusal_number Room = 1
refusal_number Size = 2
refusal_number State = 3
refusal_number Count = 4
refusal_number Over = 5
refusal_number Asleep = 6
refusal_number Full = 7
refusal_number Busy = 21
refusal_number Eight = 22

-- what a result says: what its value gives, or its refusal's number
unfoldable pub said : {A : Type 0} → (A → Giving) → Result A Refusal → Said Giving
said f (Ok x) = gave (f x)
said f (Err why) = refused (refusal_number why)

-- what an answer gives
abbrev pub giving : Answer → Giving
giving Done = done
giving (Length n) = bytes n
giving (Word w) = reads w

-- an answer, or a refusal, in these numbers
abbrev pub answer_said : Result Answer Refusal → Said Giving
answer_said r = said giving r

-- ---- the rows

-- 1: "packet call: answer room under 260 bytes"
abbrev pub room_row : List ℕ → Row
room_row room = row 1 (ltb (length room) 260)

-- 2: "a lent store or table is not its exact size"
abbrev pub all_row : Lent → Row
all_row l = row 2 (not (store_sized Priority l.priority && (store_sized Ordinary l.ordinary && tables_sized l.tables)))

abbrev pub store_row : Store → List ℕ → Row
store_row s l = row 2 (not (store_sized s l))

abbrev pub tables_row : Three → Row
tables_row t = row 2 (not (tables_sized t))

-- 3: "the state handed in breaks a bound below"
abbrev pub state_row : Pod → Row
state_row p = row 3 (not (sound_pod p))

-- 4: "a block is not 256 bytes, or a sample set not 128 numbers"
abbrev pub block_row : List ℕ → Row
block_row b = row 4 (not (eqb (length b) 256))

abbrev pub set_row : List ℕ → Row
set_row xs = row 4 (not (eqb (length xs) 128))

-- 5: "a sample is over 1,023, or the self-check number over 31"
abbrev pub over_row : ℕ → List ℕ → Row
over_row check xs = row 5 (not (bounded_of xs && leb check 31))

-- 6: "block or pipe call while the pod is not initialised"
abbrev pub asleep_row : Pod → Row
asleep_row p = row 6 (not p.initialised)

-- 7: "that store is full"
abbrev pub full_row : Store → Pod → Row
full_row s p = row 7 (leb (capacity_of s) (ring_of s p).waiting)

-- 21: request No. 3, "a packet while one is being handed over"
abbrev pub busy_row : Pod → Row
busy_row p = row 21 (busy_of p.pipe.output)

-- 22: "one not of 8 bytes"
abbrev pub eight_row : List ℕ → Row
eight_row b = row 22 (not (eqb (length b) 8))
