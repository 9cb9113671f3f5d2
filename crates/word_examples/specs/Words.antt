-- The table words, by computation: which command words there are, where a load or a read ends, and that three tables stand apart.
-- Assumes nothing.
use Rattle.std.specs.Prelude.{ℕ, ◌*◌, replicate}
use mathlib.Core.List.{List, [], ◌∷◌, ◌++◌, map, flatten}
use Rattle.tables.specs.Tables.{Three, listed}
use Rattle.rules.specs.Families.{status}
use Rattle.rules.specs.World.{World, Call, word, Told, step, final, tells}
use Rattle.examples.specs.Shown.{just_initialised, number_in, order, loading, reading, load, read, ComputedLine, line, AsExpected}
use Rattle.examples.specs.Computed.{off, shows}

-- the words that some calls give from a world on, the status word after them, and the tables
abbrev pub words_from : World → List Call → List ℕ
words_from w cs = flatten (map (λ (t : Told). number_in t.said) (tells w cs))

abbrev pub status_from : World → List Call → List ℕ
status_from w cs = number_in (step (final w cs) (word status)).told.said

abbrev pub tables_from : World → List Call → Three
tables_from w cs = (final w cs).lent.tables

-- three words loaded to table 6, one to table 7, one to table 5
abbrev pub loaded : ℕ → ℕ → ℕ → List Call
loaded x y z = order 0x8C06 ++ loading (6 ∷ 1 ∷ 3 ∷ x ∷ y ∷ z ∷ []) ++ order 0x8E04 ++ loading (7 ∷ 1 ∷ 1 ∷ x ∷ []) ++ load 5 0 1 y

-- each table's first words, read
abbrev pub reads_each : List Call
reads_each = order 0x4C06 ++ reading 6 ++ order 0xCE06 ++ reading 6 ++ read

-- the table from a world on; x, y and z are any words
abbrev pub words : World → ℕ → ℕ → ℕ → List ComputedLine
words w x y z =
    -- "Starts: tables 5 and 6 all 0; table 7 word i is 256 times i"
    line (tables_from w []).five (replicate 64 0)
    ∷ line (tables_from w []).six (replicate 128 0)
    ∷ line (tables_from w []).seven (listed (λ (i : ℕ). 256 * i) 64)
    -- a load goes to its own table; "that table's read place": each moves alone
    ∷ line (words_from w (loaded x y z ++ reads_each ++ reads_each ++ shows))
    (6 ∷ 0 ∷ 3 ∷ 0 ∷ x ∷ y ∷ 7 ∷ 0 ∷ 3 ∷ 0 ∷ x ∷ 512 ∷ 5 ∷ 0 ∷ 1 ∷ y ∷ 6 ∷ 3 ∷ 3 ∷ z ∷ 0 ∷ 0 ∷ 7 ∷ 3 ∷ 3 ∷ 768 ∷ 1024 ∷ 1280 ∷ 5 ∷ 1 ∷ 1 ∷ 0 ∷ 0 ∷ [])
    -- "Any other": commands 13, 21, 4 and 8; N 260; 1 writing N 2, 1 reading; 0 writing N 2, 0 reading
    ∷ line (words_from w (order 0x9A04 ++ shows ++ order 0xAA04 ++ shows ++ order 0x8804 ++ shows ++ order 0x9004 ++ shows ++ order 0x8B04 ++ shows))
    (replicate 5 2)
    ∷ line (words_from w (order 0x8202 ++ shows ++ order 0x4201 ++ shows ++ order 0x0002 ++ shows ++ order 0xC001 ++ shows)) (replicate 4 2)
    -- "N 4 to 64": a load of 61 words up to the table's end
    ∷ line (tables_from w (order 0x0A40 ++ loading (5 ∷ 3 ∷ 61 ∷ replicate 61 x))).five (replicate 3 0 ++ replicate 61 x)
    -- "address plus count at most the table's size", "a read that would pass its table's end": 127 of table 6, and 128
    ∷ line (words_from w (order 0x0C04 ++ loading (6 ∷ 127 ∷ 1 ∷ x ∷ []) ++ order 0x8201 ++ loading (127 ∷ []) ++ order 0xCC04 ++ reading 4 ++ shows))
    (6 ∷ 127 ∷ 1 ∷ x ∷ 0 ∷ [])
    ∷ line (tables_from w (order 0x0C04 ++ loading (6 ∷ 128 ∷ 1 ∷ x ∷ []))).six (replicate 128 0)
    ∷ line (words_from w (order 0x0C04 ++ loading (6 ∷ 128 ∷ 1 ∷ x ∷ []) ++ shows ++ order 0x8201 ++ loading (128 ∷ []) ++ order 0xCC04 ++ shows)) (2 ∷ 2 ∷ [])
    -- two words from 63 on pass the end of table 5
    ∷ line ((tables_from w (order 0x8A05 ++ loading (5 ∷ 63 ∷ 2 ∷ x ∷ y ∷ []))).five ++ status_from w (order 0x8A05 ++ loading (5 ∷ 63 ∷ 2 ∷ x ∷ y ∷ []))) (replicate 64 0 ++ (2 ∷ []))
    ∷ []

-- and what each word closes, keeps and sets
abbrev pub closings : World → ℕ → List ComputedLine
closings w x =
    -- "word 1 right, word 3 right", all of each word; and all of an address, 0103
    line ((tables_from w (load 0x105 63 1 x)).five ++ status_from w (load 0x105 63 1 x)) (replicate 64 0 ++ (2 ∷ []))
    ∷ line ((tables_from w (load 5 63 0x101 x)).five ++ status_from w (load 5 63 0x101 x)) (replicate 64 0 ++ (2 ∷ []))
    ∷ line (words_from w (order 0x8201 ++ loading (0x103 ∷ []) ++ order 0xCA04 ++ shows)) (2 ∷ [])
    -- "with no transfer that way sets message error and closes any other transfer": none open, an address, a load, a read
    ∷ line
    (words_from w (loading (7 ∷ []) ++ shows ++ reading 1 ++ shows ++ order 0x8201 ++ reading 1 ++ shows ++ order 0x8000 ++ shows))
    (2 ∷ 0 ∷ 2 ∷ 0 ∷ 2 ∷ 0 ∷ [])
    ∷ line
    (words_from w (order 0x0A04 ++ reading 1 ++ shows ++ order 0x8000 ++ shows ++ order 0xCA04 ++ loading (7 ∷ []) ++ shows ++ reading 1 ++ shows))
    (0 ∷ 2 ∷ 0 ∷ 2 ∷ 0 ∷ 2 ∷ [])
    -- "tables to their starts, read places 0, no address given": no error, but where a read is cut, which is then closed
    ∷ line (words_from w (read ++ order 0x8201 ++ loading (3 ∷ []) ++ order 0x0001 ++ shows ++ read)) (5 ∷ 0 ∷ 1 ∷ 0 ∷ 0 ∷ 5 ∷ 0 ∷ 1 ∷ 0 ∷ [])
    ∷ line (words_from w (order 0xCA04 ++ order 0x0001 ++ shows ++ reading 1 ++ shows)) (2 ∷ 0 ∷ 2 ∷ [])
    -- a word that is not accepted closes, and keeps tables, places and a given address
    ∷ line (words_from w (order 0xCA04 ++ order 0x0000 ++ shows ++ reading 1 ++ shows)) (2 ∷ 0 ∷ 2 ∷ [])
    ∷ line (tables_from w (load 5 63 1 x ++ order 0x0000)).five (replicate 63 0 ++ (x ∷ []))
    ∷ line (words_from w (load 5 3 1 x ++ order 0x8201 ++ loading (3 ∷ []) ++ order 0x0000 ++ shows ++ read)) (2 ∷ 5 ∷ 3 ∷ 1 ∷ x ∷ [])
    -- "used up by an accepted read" alone: kept by a load, by another 8201 that is cut, by a read that would pass the end
    ∷ line (words_from w (order 0x8201 ++ loading (3 ∷ []) ++ load 5 3 1 x ++ read)) (5 ∷ 3 ∷ 1 ∷ x ∷ [])
    ∷ line (words_from w (order 0x8201 ++ loading (3 ∷ []) ++ order 0x8201 ++ order 0x8000 ++ read)) (5 ∷ 3 ∷ 1 ∷ 0 ∷ [])
    ∷ line (words_from w (order 0x8201 ++ loading (64 ∷ []) ++ order 0xCA04 ++ shows ++ order 0xCA04 ++ shows)) (2 ∷ 2 ∷ [])
    -- a read place moves by reads alone
    ∷ line (words_from w (read ++ order 0x0000 ++ order 0x8201 ++ order 0x8000 ++ load 5 3 1 x ++ read)) (5 ∷ 0 ∷ 1 ∷ 0 ∷ 5 ∷ 1 ∷ 1 ∷ 0 ∷ [])
    -- while asleep 0001 is not accepted: the Shutdown's answer has 5 bytes
    ∷ line (words_from w (off ++ order 0x0001 ++ shows)) (5 ∷ 2 ∷ [])
    ∷ line (tables_from w (load 5 63 1 x ++ off ++ order 0x0001)).five (replicate 63 0 ++ (x ∷ []))
    ∷ []

pub record BothTables (x y z : ℕ) : Type 0 where
  pub words : AsExpected (words just_initialised x y z)
  pub closings : AsExpected (closings just_initialised x)

abbrev pub WordsComputed : Type 0
WordsComputed = (x y z : ℕ) → BothTables x y z
