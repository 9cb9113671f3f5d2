-- The names of the lines X and L, each behind its letter, and what they stand for.
-- Assumes nothing.
use Rattle.std.specs.Prelude.{ℕ, ◌-◌, cond, List, [], ◌∷◌, ◌++◌, leb, length, replicate, Option, Some, None}
use Prim.Native.String.{String, [] as none, ◌∷◌ as ◌then◌}
use Prim.Native.Char.{code}
use Rattle.rows.specs.Same.{same_list}
use Rattle.items.specs.Characters.{space}
use Rattle.blocks.specs.declared.Store.TheVariants.{Priority, Ordinary}
use Rattle.orders.specs.declared.Table.TheVariants.{Five, Six, Seven}
use Rattle.lab_sets.specs.declared.Field.TheVariants.{Mode, Flags, Seconds, Milliseconds, Limit, Remaining, Poll}
use Rattle.lab_sets.specs.declared.Cell.TheVariants.{Initialised, Field as field, Written, Missing, Error, Place, Oldest, Waiting, Gathered, Timeouts, Out, Outtimeouts}
use Rattle.lab_sets.specs.declared.Thing.TheVariants.{Room, Store as store, Table as table}
use Rattle.lab_names.specs.declared.Part.{Part}
use Rattle.lab_names.specs.declared.Part.TheVariants.{Cell as cell, Value, Exchange, Address, Transfer, Thing as thing}

-- a name with its line's letter, and what it stands for
pub record Name : Type 0 where
  pub text : List ℕ
  pub part : Part

-- the characters of a text
abbrev pub characters : String → List ℕ
characters none = []
characters (c then s) = code c ∷ characters s

-- a name of 14 characters, with spaces behind it: no name has one in it
abbrev pub padded : List ℕ → List ℕ
padded t = t ++ replicate (14 - length t) space

abbrev pub named : String → Part → Name
named s p = record { text = padded (characters s); part = p }

-- a name as the code's table has it
abbrev pub entry : Name → (List ℕ × Part)
entry n = (n.text, n.part)

-- initialised and the fields of Initialise
unfoldable pub state_names : List Name
state_names =
    named "X initialised" (cell Initialised)
    ∷ named "X mode" (cell (field Mode))
    ∷ named "X flags" (cell (field Flags))
    ∷ named "X seconds" (cell (field Seconds))
    ∷ named "X milliseconds" (cell (field Milliseconds))
    ∷ named "X limit0" (cell (field (Limit Priority)))
    ∷ named "X limit1" (cell (field (Limit Ordinary)))
    ∷ named "X remaining0" (cell (field (Remaining Priority)))
    ∷ named "X remaining1" (cell (field (Remaining Ordinary)))
    ∷ named "X poll" (cell (field Poll))
    ∷ []

-- whether a parameter was written
unfoldable pub written_names : List Name
written_names =
    named "X written1" (cell (Written 1))
    ∷ named "X written2" (cell (Written 2))
    ∷ named "X written3" (cell (Written 3))
    ∷ named "X written4" (cell (Written 4))
    ∷ named "X written5" (cell (Written 5))
    ∷ named "X written6" (cell (Written 6))
    ∷ named "X written7" (cell (Written 7))
    ∷ named "X written8" (cell (Written 8))
    ∷ named "X written9" (cell (Written 9))
    ∷ named "X written10" (cell (Written 10))
    ∷ named "X written11" (cell (Written 11))
    ∷ named "X written12" (cell (Written 12))
    ∷ []

-- the places of the kept list of missing ids
unfoldable pub missing_names : List Name
missing_names =
    named "X missing0" (cell (Missing 0))
    ∷ named "X missing1" (cell (Missing 1))
    ∷ named "X missing2" (cell (Missing 2))
    ∷ named "X missing3" (cell (Missing 3))
    ∷ named "X missing4" (cell (Missing 4))
    ∷ named "X missing5" (cell (Missing 5))
    ∷ named "X missing6" (cell (Missing 6))
    ∷ named "X missing7" (cell (Missing 7))
    ∷ []

-- the table words, the stores and the pipe
unfoldable pub port_names : List Name
port_names =
    named "X error" (cell Error)
    ∷ named "X place5" (cell (Place Five))
    ∷ named "X place6" (cell (Place Six))
    ∷ named "X place7" (cell (Place Seven))
    ∷ named "X oldest0" (cell (Oldest Priority))
    ∷ named "X oldest1" (cell (Oldest Ordinary))
    ∷ named "X waiting0" (cell (Waiting Priority))
    ∷ named "X waiting1" (cell (Waiting Ordinary))
    ∷ named "X gathered" (cell Gathered)
    ∷ named "X timeouts" (cell Timeouts)
    ∷ named "X out" (cell Out)
    ∷ named "X outtimeouts" (cell Outtimeouts)
    ∷ []

-- the parameters
unfoldable pub value_names : List Name
value_names =
    named "X param1" (Value 1)
    ∷ named "X param2" (Value 2)
    ∷ named "X param3" (Value 3)
    ∷ named "X param4" (Value 4)
    ∷ named "X param5" (Value 5)
    ∷ named "X param6" (Value 6)
    ∷ named "X param7" (Value 7)
    ∷ named "X param8" (Value 8)
    ∷ named "X param9" (Value 9)
    ∷ named "X param10" (Value 10)
    ∷ named "X param11" (Value 11)
    ∷ named "X param12" (Value 12)
    ∷ []

-- what is no number from 0 on, and the lent things
unfoldable pub other_names : List Name
other_names =
    named "X exchange" Exchange
    ∷ named "X address" Address
    ∷ named "X transfer" Transfer
    ∷ named "L room" (thing Room)
    ∷ named "L p" (thing (store Priority))
    ∷ named "L o" (thing (store Ordinary))
    ∷ named "L 5" (thing (table Five))
    ∷ named "L 6" (thing (table Six))
    ∷ named "L 7" (thing (table Seven))
    ∷ []

unfoldable pub names : List Name
names = state_names ++ (written_names ++ (missing_names ++ (port_names ++ (value_names ++ other_names))))

-- the first name that a text is
unfoldable pub part_in : List ℕ → List Name → Option Part
part_in t [] = None
part_in t (n ∷ ns) = cond (same_list t n.text) (Some n.part) (part_in t ns)

-- what the head of a line names
unfoldable pub part_named : List ℕ → Option Part
part_named head = cond (leb (length head) 14) (part_in (padded head) names) None
