-- What a line of the program aircraft asks. Form is judged before fields: the numbers here may be of any size.
-- Assumes nothing.
use Rattle.std.specs.Prelude.{ℕ, Bool, true, false, not, ◌&&◌, ◌||◌, cond, List, [], ◌∷◌, eqb, ℤ, pos, neg_ℤ, length, take, drop, get_or, Option, Some, None}
use Rattle.packets.specs.declared.Fields.{Fields}
use Rattle.packets.specs.declared.Command.{Command}
use Rattle.packets.specs.declared.Command.TheVariants.{Initialise, Status, Update, Write, Read, Priority, Data, Shutdown}
use Rattle.airframe.specs.declared.Form.{Form}
use Rattle.airframe.specs.declared.Form.TheVariants.{Taken, Failed}
use Rattle.airframe.specs.Given.{fields_nine, command_typed}
use Rattle.items.specs.Characters.{space, dash}
use Rattle.items.specs.Text.{ItemsRead, bytes_in}
use Rattle.decimals.specs.declared.Number.{Number}
use Rattle.decimals.specs.Reading.{numbers_in}
use Rattle.lines.specs.Asked.{one_byte}
use Rattle.aircraft_lines.specs.Letters.{letter_q, letter_y, letter_p, letter_n}
use Rattle.aircraft_lines.specs.declared.Line.{Line}
use Rattle.aircraft_lines.specs.declared.Line.TheVariants as line

-- a line of the table, with what it gives; and every other line
pub data Ask : Type 0 where
  -- `Q`: a command, built and put on its way
  sends : Command → Ask
  -- `Y`: an acknowledgement
  takes : ℕ → Form → Ask
  -- `P` bytes: an answer
  hears : List ℕ → Ask
  -- `P -`: no reply
  waits : Ask
  -- `N`: what is on its way, again
  again : Ask
  other : Ask

-- ---- Q

-- the number at a place
abbrev pub number_at : List (Option Number) → ℕ → Option Number
number_at l i = get_or l i None

-- "decimal, 1 to 10 digits without a sign"
abbrev pub is_plain : Option Number → Bool
is_plain None = false
is_plain (Some n) = not n.minus

unfoldable pub all_plain : List (Option Number) → Bool
all_plain [] = true
all_plain (n ∷ ns) = is_plain n && all_plain ns

abbrev pub size_of : Option Number → ℕ
size_of None = 0
size_of (Some n) = n.size

-- "a value may have a leading `-`"; "`-0` is 0"
abbrev pub is_value : Option Number → Bool
is_value None = false
is_value (Some n) = true

abbrev pub value_of : Number → ℤ
value_of n = cond n.minus (neg_ℤ (pos n.size)) (pos n.size)

abbrev pub value_at : Option Number → ℤ
value_at None = pos 0
value_at (Some n) = value_of n

-- "mode flags seconds milliseconds, priority limit and remaining, memory limit and remaining, poll"
abbrev pub sizes_in : List (Option Number) → List ℕ
sizes_in l =
    size_of (number_at l 0) ∷ size_of (number_at l 1) ∷ size_of (number_at l 2) ∷ size_of (number_at l 3) ∷ size_of (number_at l 4) ∷ size_of (number_at l 5)
    ∷ size_of (number_at l 6) ∷ size_of (number_at l 7) ∷ size_of (number_at l 8) ∷ []

abbrev pub fields_asked : List (Option Number) → Fields
fields_asked l = fields_nine (sizes_in l)

-- the commands that carry nothing
unfoldable pub bare_asked : ℕ → Ask
bare_asked code =
    cond (eqb code 0x91) (sends Status)
    (cond (eqb code 0x95) (sends Priority)
    (cond (eqb code 0x96) (sends Data)
    (cond (eqb code 0x9F) (sends Shutdown)
    other)))

-- "`Q 90` or `Q 92`" and nine numbers, "`Q 91`, `Q 93 id value`, `Q 94 id`, `Q 95`, `Q 96`, `Q 9F`"
unfoldable pub command_asked : ℕ → List (Option Number) → Ask
command_asked code l =
    cond (eqb (length l) 0) (bare_asked code)
    (cond (eqb code 0x90 && (eqb (length l) 9 && all_plain l)) (sends (Initialise (fields_asked l)))
    (cond (eqb code 0x92 && (eqb (length l) 9 && all_plain l)) (sends (Update (fields_asked l)))
    (cond (eqb code 0x93 && (eqb (length l) 2 && (is_plain (number_at l 0) && is_value (number_at l 1)))) (sends (Write (size_of (number_at l 0)) (value_at (number_at l 1))))
    (cond (eqb code 0x94 && (eqb (length l) 1 && is_plain (number_at l 0))) (sends (Read (size_of (number_at l 0))))
    other))))

-- behind the code nothing, or numbers "each after one space"
abbrev pub is_spaced : List ℕ → Bool
is_spaced t = eqb (length t) 4 || eqb (get_or t 4 0) space

-- by the code
unfoldable pub query_of : Option ℕ → List ℕ → Ask
query_of None t = other
query_of (Some code) t = cond (is_spaced t) (command_asked code (numbers_in (drop 4 t))) other

unfoldable pub query_in : List ℕ → Ask
query_in t = query_of (one_byte (take 3 (drop 1 t))) t

-- ---- Y, P and N

-- a run of bytes that has to be whole
abbrev pub wholly : ItemsRead ℕ → (List ℕ → Ask) → Ask
wholly r f = cond r.whole (f r.values) other

-- "`Y cc`, `Y cc ee`"
abbrev pub form_asked : List ℕ → Ask
form_asked [] = other
form_asked (first ∷ []) = takes first Taken
form_asked (first ∷ e ∷ []) = takes first (Failed e)
form_asked (first ∷ e ∷ x ∷ xs) = other

unfoldable pub taking_in : List ℕ → Ask
taking_in t = wholly (bytes_in (drop 1 t)) form_asked

-- "`P` bytes, `P -`": "`P -` is no reply"
abbrev pub is_silence : List ℕ → Bool
is_silence t = eqb (length t) 3 && (eqb (get_or t 1 0) space && eqb (get_or t 2 0) dash)

unfoldable pub answer_in : List ℕ → Ask
answer_in t = cond (is_silence t) waits (wholly (bytes_in (drop 1 t)) hears)

-- the table, by the letter
unfoldable pub ask_in : List ℕ → Ask
ask_in t =
    cond (eqb (get_or t 0 0) letter_q) (query_in t)
    (cond (eqb (get_or t 0 0) letter_y) (taking_in t)
    (cond (eqb (get_or t 0 0) letter_p) (answer_in t)
    (cond (eqb (get_or t 0 0) letter_n && eqb (length t) 1) again
    other)))

-- ---- how the code says it

-- "a decimal number too large for its field's type is 20": such a command can't be written down, and is outside; an answer's bytes lie
-- in lent memory, and their count is said
unfoldable pub say_ask : Ask → Option Line
say_ask (sends c) = Some (cond (command_typed c) (line.Send c) line.Outside)
say_ask (takes first form) = Some (line.Take first form)
say_ask (hears bs) = Some (line.Hear (length bs))
say_ask waits = Some line.Wait
say_ask again = Some line.Again
say_ask other = None

-- nine numbers behind `Q 90` or `Q 92`
unfoldable pub line_given : Bool → Option Fields → Option Line
line_given initialises (Some f) = Some (line.Send (cond initialises (Initialise f) (Update f)))
line_given initialises None = Some line.Outside

-- the bytes of an answer
unfoldable pub heard_bytes : Ask → List ℕ
heard_bytes (sends c) = []
heard_bytes (takes first form) = []
heard_bytes (hears bs) = bs
heard_bytes waits = []
heard_bytes again = []
heard_bytes other = []

-- what a line leaves in the lent memory, from its start: the bytes behind `P`, up to the first place that is none
unfoldable pub answer_bytes : List ℕ → List ℕ
answer_bytes t = cond (is_silence t) [] (bytes_in (drop 1 t)).values

unfoldable pub bytes_left : List ℕ → List ℕ
bytes_left t = cond (eqb (get_or t 0 0) letter_p) (answer_bytes t) []
