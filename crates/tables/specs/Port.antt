-- What each call of the table port does to its state, to the three tables and to the words of an open load.
use Rattle.std.specs.Prelude.{ℕ, ◌+◌, ◌-◌, Bool, true, false, ◌&&◌, ◌||◌, cond, Option, Some, None, List, ◌∷◌, get_or, set, take, drop, ltb, leb, eqb}
use Rattle.std.proofs.lemmas.List.Edits.{sets}
use Rattle.orders.specs.declared.Table.{Table}
use Rattle.tables.specs.declared.Header.{Header}
use Rattle.tables.specs.declared.Places.{Places}
use Rattle.tables.specs.declared.Words.{Words}
use Rattle.tables.specs.declared.Transfer.{Transfer}
use Rattle.tables.specs.declared.Transfer.TheVariants.{Idle, Address, Load, Read}
use Rattle.orders.specs.declared.Order.{Order}
use Rattle.orders.specs.declared.Order.TheVariants.{Stop, Restart, Next, Writing, Reading}
use Rattle.tables.specs.Tables.{table_size, Three, starts, words_of, with_table, read_place, with_read_place}
use Rattle.orders.specs.Command.{table_number, order_heard}

-- ---- the state with one field changed

abbrev pub with_error : Bool → Words → Words
with_error e w = record { error = e; transfer = w.transfer; places = w.places; given = w.given }

abbrev pub with_transfer : Transfer → Words → Words
with_transfer t w = record { error = w.error; transfer = t; places = w.places; given = w.given }

abbrev pub with_places : Places → Words → Words
with_places p w = record { error = w.error; transfer = w.transfer; places = p; given = w.given }

abbrev pub with_given : Option ℕ → Words → Words
with_given g w = record { error = w.error; transfer = w.transfer; places = w.places; given = g }

-- what is lent: the three tables, and the words of an open load as far as it has come
pub record Desk : Type 0 where
  pub tables : Three
  pub load : List ℕ

abbrev pub desk : Three → List ℕ → Desk
desk t l = record { tables = t; load = l }

-- the state together with what is lent
pub record Tabled : Type 0 where
  pub words : Words
  pub desk : Desk

abbrev pub tabled : Words → Desk → Tabled
tabled w d = record { words = w; desk = d }

-- ---- starts

-- read places 0
abbrev pub no_places : Places
no_places = record { five = 0; six = 0; seven = 0 }

-- fresh from power: no message error, no transfer, read places 0, no address given
unfoldable pub start_words : Words
start_words = record { error = false; transfer = Idle; places = no_places; given = None }

-- ---- closing

-- message error is set
abbrev pub erred : Words → Words
erred w = with_error true w

-- whether a transfer is open
abbrev pub is_open : Transfer → Bool
is_open Idle = false
is_open Address = true
is_open (Load h k) = true
is_open (Read h k at) = true

-- closing an open transfer before its last word sets message error
unfoldable pub close_of : Words → Words
close_of w = with_transfer Idle (with_error (w.error || is_open w.transfer) w)

-- ---- a command word

-- a load or a read of N words of a table
abbrev pub header : Table → ℕ → Header
header t n = record { table = t; n = n }

-- N counts three header words and the data words
abbrev pub data_count : Header → ℕ
data_count h = h.n - 3

-- word 3: the count of data words
abbrev pub word_three : Header → ℕ
word_three h = data_count h

-- address plus count at most the table's size
abbrev pub fits : Table → ℕ → ℕ → Bool
fits t at count = leb (at + count) (table_size t)

-- a read starts at the given address, else at that table's read place
abbrev pub begins_at : Option ℕ → ℕ → ℕ
begins_at None place = place
begins_at (Some a) place = a

-- an accepted read at once puts the place just behind its last data word, and uses the address up; one that would pass its
-- table's end sets message error
unfoldable pub read_opened_at : Header → ℕ → Words → Words
read_opened_at h at w =
    cond (fits h.table at (data_count h))
    (with_given None (with_places (with_read_place h.table (at + data_count h) w.places) (with_transfer (Read h 0 at) w)))
    (erred w)

-- a read of a table by its command word
unfoldable pub read_opened : Header → Words → Words
read_opened h w = read_opened_at h (begins_at w.given (read_place h.table w.places)) w

-- command 0, N 1: read places 0, no address given (and the tables to their starts)
unfoldable pub restarted : Words → Words
restarted w = with_given None (with_places no_places w)

-- what a command word does to the state, any open transfer being closed
unfoldable pub order_obeyed : Option Order → Words → Words
order_obeyed None w = erred w
order_obeyed (Some Stop) w = w
order_obeyed (Some Restart) w = restarted w
order_obeyed (Some Next) w = with_transfer Address w
order_obeyed (Some (Writing t n)) w = with_transfer (Load (header t n) 0) w
order_obeyed (Some (Reading t n)) w = read_opened (header t n) w

-- and to the tables
unfoldable pub tables_after : Option Order → Three → Three
tables_after None s = s
tables_after (Some Stop) s = s
tables_after (Some Restart) s = starts
tables_after (Some Next) s = s
tables_after (Some (Writing t n)) s = s
tables_after (Some (Reading t n)) s = s

-- every command word closes an open transfer first; a Bool says whether the pod is initialised
unfoldable pub command_of : Bool → ℕ → Tabled → Tabled
command_of on word s =
    tabled (order_obeyed (order_heard on word) (close_of s.words)) (desk (tables_after (order_heard on word) s.desk.tables) s.desk.load)

-- ---- a data word written

-- a data word with no transfer that way sets message error and closes any other transfer
unfoldable pub wrong_way : Words → Words
wrong_way w = erred (with_transfer Idle w)

-- a load's words are right: word 1 the number, word 3 the count, address plus count at most the size
unfoldable pub load_right : Header → List ℕ → Bool
load_right h l =
    eqb (get_or l 0 0) (table_number h.table) && (eqb (get_or l 2 0) (word_three h) && fits h.table (get_or l 1 0) (data_count h))

-- a table with a load's data words, from word 4 on, stored at its address, word 2
unfoldable pub stored_in : Header → List ℕ → List ℕ → List ℕ
stored_in h l table = sets table (get_or l 1 0) (take (data_count h) (drop 3 l))

-- a load is judged with its last word: the run is stored, or nothing is written and message error is set
unfoldable pub load_judged : Header → List ℕ → Words → Three → Tabled
load_judged h l w s =
    cond (load_right h l)
    (tabled w (desk (with_table h.table (stored_in h l (words_of h.table s)) s) l))
    (tabled (erred w) (desk s l))

-- word k of a load, from 0: the words gather, and the last one closes the load, taken or not
unfoldable pub load_of : Header → ℕ → ℕ → Tabled → Tabled
load_of h k x s =
    cond (ltb (k + 1) h.n)
    (tabled (with_transfer (Load h (k + 1)) s.words) (desk s.desk.tables (set s.desk.load k x)))
    (load_judged h (set s.desk.load k x) (with_transfer Idle s.words) s.desk.tables)

-- by the open transfer: the word after command 1 is the next read address
unfoldable pub word_taken : Transfer → ℕ → Tabled → Tabled
word_taken Idle x s = tabled (wrong_way s.words) s.desk
word_taken Address x s = tabled (with_given (Some x) (with_transfer Idle s.words)) s.desk
word_taken (Load h k) x s = load_of h k x s
word_taken (Read h k at) x s = tabled (wrong_way s.words) s.desk

-- a data word written goes to the open transfer
unfoldable pub data_in_of : ℕ → Tabled → Tabled
data_in_of x s = word_taken s.words.transfer x s

-- ---- a data word read

-- a word that is read, and the next state
pub record Answered : Type 0 where
  pub word : ℕ
  pub words : Words

abbrev pub answer : ℕ → Words → Answered
answer x w = record { word = x; words = w }

-- word k of a read, from 0: the three header words, then the table's words as they are at that moment
unfoldable pub read_word : Header → ℕ → List ℕ → ℕ → ℕ
read_word h at table k = get_or (table_number h.table ∷ at ∷ word_three h ∷ drop at table) k 0

-- a read one word on: after its last word it is closed
unfoldable pub read_next : Header → ℕ → ℕ → Transfer
read_next h k at = cond (ltb (k + 1) h.n) (Read h (k + 1) at) Idle

-- by the open transfer: with no read open a data word reads as 0
unfoldable pub word_given : Transfer → Words → Three → Answered
word_given Idle w s = answer 0 (wrong_way w)
word_given Address w s = answer 0 (wrong_way w)
word_given (Load h k) w s = answer 0 (wrong_way w)
word_given (Read h k at) w s = answer (read_word h at (words_of h.table s) k) (with_transfer (read_next h k at) w)

-- a data word read comes from the open transfer
unfoldable pub data_out_of : Words → Three → Answered
data_out_of w s = word_given w.transfer w s

-- ---- the status word

-- the bit of message error
abbrev pub error_shown : Bool → ℕ
error_shown error = cond error 2 0

-- 2 with message error, else 0; reading it clears the error
unfoldable pub status_of : Words → Answered
status_of w = answer (error_shown w.error) (with_error false w)
