-- What a line of the console asks.
-- Assumes nothing.
use Rattle.std.specs.Prelude.{Bool, ◌&&◌, ◌||◌, cond, List, [], ℕ, eqb, length, take, drop, get_or, Option, Some, None}
use Rattle.blocks.specs.declared.Store.{Store}
use Rattle.blocks.specs.declared.Store.TheVariants.{Priority, Ordinary}
use Rattle.lines.specs.Letters.{letter_p, letter_d, letter_b, letter_c, letter_w, letter_r, letter_s, letter_a, letter_i, letter_t, letter_o, letter_k, letter_z, small_p, small_o}
use Rattle.lines.specs.declared.Line.{Line}
use Rattle.lines.specs.declared.Line.TheVariants.{Packet, Deadline, Put, Command, Data, Read, Status, Samples, Byte, Timeout, Out, Taken, Power}
use Rattle.items.specs.Characters.{space}
use Rattle.items.specs.Text.{ItemsRead, bytes_in, words_in, byte_item, word_item}

-- a call with what it is given, a case for each line of the table; and every other line
pub data Asked : Type 0 where
  packet : List ℕ → Asked
  deadline : Asked
  put : Store → List ℕ → Asked
  command : ℕ → Asked
  data_in : ℕ → Asked
  data_out : Asked
  status : Asked
  samples : ℕ → List ℕ → Asked
  ask_byte : ℕ → Asked
  ask_timeout : Asked
  ask_out : List ℕ → Asked
  ask_taken : Asked
  power : Asked
  other : Asked

-- what the line asks, and the bytes and the words that are read of it
pub record Asking : Type 0 where
  pub asked : Asked
  pub bytes : List ℕ
  pub words : List ℕ

abbrev pub asking : Asked → List ℕ → List ℕ → Asking
asking a bs ws = record { asked = a; bytes = bs; words = ws }

-- any other line, of which nothing is read
abbrev pub unasked : Asking
unasked = asking other [] []

-- a run of items that has to be whole
abbrev pub wholly : ItemsRead ℕ → (List ℕ → Asked) → Asked
wholly r f = cond r.whole (f r.values) other

-- exactly one byte; exactly one word
unfoldable pub one_byte : List ℕ → Option ℕ
one_byte t = cond (eqb (length t) 3) (byte_item (get_or t 0 0) (get_or t 1 0) (get_or t 2 0)) None

unfoldable pub one_word : List ℕ → Option ℕ
one_word t = cond (eqb (length t) 5) (word_item (get_or t 0 0) (get_or t 1 0) (get_or t 2 0) (get_or t 3 0) (get_or t 4 0)) None

-- `P` bytes. A line of any other letter is none
abbrev pub packing : ItemsRead ℕ → Asking
packing r = asking (wholly r packet) r.values []

unfoldable pub packet_in : List ℕ → Asking
packet_in t = cond (eqb (get_or t 0 0) letter_p) (packing (bytes_in (drop 1 t))) unasked

-- `O` bytes
abbrev pub offering : ItemsRead ℕ → Asking
offering r = asking (wholly r ask_out) r.values []

unfoldable pub out_in : List ℕ → Asking
out_in t = offering (bytes_in (drop 1 t))

-- `B p` bytes, `B o` bytes
abbrev pub is_put : ℕ → List ℕ → Bool
is_put c t = eqb (get_or t 1 0) space && eqb (get_or t 2 0) c

abbrev pub putting : Store → ItemsRead ℕ → Asking
putting s r = asking (wholly r (put s)) r.values []

unfoldable pub put_in : List ℕ → Asking
put_in t =
    cond (is_put small_p t) (putting Priority (bytes_in (drop 3 t)))
    (cond (is_put small_o t) (putting Ordinary (bytes_in (drop 3 t)))
    unasked)

-- `A` byte words
abbrev pub sampling : Option ℕ → ItemsRead ℕ → Asking
sampling None r = unasked
sampling (Some check) r = asking (wholly r (samples check)) [] r.values

unfoldable pub samples_in : List ℕ → Asking
samples_in t = sampling (one_byte (take 3 (drop 1 t))) (words_in (drop 4 t))

-- the letters with nothing behind them: `D`, `K`, `R`, `S`, `T`, `Z`
unfoldable pub bare_asked : ℕ → Asked
bare_asked c =
    cond (eqb c letter_d) deadline
    (cond (eqb c letter_k) ask_taken
    (cond (eqb c letter_r) data_out
    (cond (eqb c letter_s) status
    (cond (eqb c letter_t) ask_timeout
    (cond (eqb c letter_z) power
    other)))))

-- `C` word, `W` word
abbrev pub word_asked : ℕ → Option ℕ → Asked
word_asked c None = other
word_asked c (Some w) = cond (eqb c letter_c) (command w) (data_in w)

-- `I` byte
abbrev pub byte_asked : Option ℕ → Asked
byte_asked None = other
byte_asked (Some b) = ask_byte b

-- the letters with one item behind them, and the bare letters
unfoldable pub short_asked : ℕ → List ℕ → Asked
short_asked c t =
    cond (eqb c letter_c || eqb c letter_w) (word_asked c (one_word t))
    (cond (eqb c letter_i) (byte_asked (one_byte t))
    (cond (eqb (length t) 0) (bare_asked c) other))

-- "A line is a letter and items after one space each": the table, by the letter
unfoldable pub line_of : List ℕ → Asking
line_of t =
    cond (eqb (get_or t 0 0) letter_p) (packet_in t)
    (cond (eqb (get_or t 0 0) letter_b) (put_in t)
    (cond (eqb (get_or t 0 0) letter_o) (out_in t)
    (cond (eqb (get_or t 0 0) letter_a) (samples_in t)
    (asking (short_asked (get_or t 0 0) (drop 1 t)) [] []))))

-- how the code says it: a run of bytes or words by its count, since the values lie in lent memory; another line is none
unfoldable pub say_line : Asked → Option Line
say_line (packet bs) = Some (Packet (length bs))
say_line deadline = Some Deadline
say_line (put s bs) = Some (Put s (length bs))
say_line (command w) = Some (Command w)
say_line (data_in w) = Some (Data w)
say_line data_out = Some Read
say_line status = Some Status
say_line (samples k ws) = Some (Samples k (length ws))
say_line (ask_byte b) = Some (Byte b)
say_line ask_timeout = Some Timeout
say_line (ask_out bs) = Some (Out (length bs))
say_line ask_taken = Some Taken
say_line power = Some Power
say_line other = None
