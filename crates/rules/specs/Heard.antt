-- What a table word leaves, each part by its own sentence and apart from the rule: by the order heard or the open transfer.
-- Assumes nothing.
use Rattle.std.specs.Prelude.{ℕ, ◌+◌, ◌-◌, Bool, true, false, not, ◌&&◌, ◌||◌, cond, List, ltb, set, Option, Some, None}
use Rattle.tables.specs.declared.Header.{Header}
use Rattle.tables.specs.declared.Words.{Words}
use Rattle.tables.specs.declared.Places.{Places}
use Rattle.orders.specs.declared.Order.{Order}
use Rattle.orders.specs.declared.Order.TheVariants.{Stop, Restart, Next, Writing, Reading}
use Rattle.tables.specs.declared.Transfer.{Transfer}
use Rattle.tables.specs.declared.Transfer.TheVariants.{Idle, Address, Load, Read}
use Rattle.tables.specs.Tables.{Three, starts, words_of, with_table, read_place, with_read_place}
use Rattle.orders.specs.Command.{order_heard}
use Rattle.tables.specs.Port.{Desk, desk, header, is_open, fits, begins_at, load_right, stored_in}
use Rattle.rules.specs.Families.{WordCall, command, data_in, data_out, status}

-- ---- the open transfer

-- an order that is not accepted, or a read that would pass its table's end
abbrev pub not_taken : Option Order → Words → Bool
not_taken None w = true
not_taken (Some Stop) w = false
not_taken (Some Restart) w = false
not_taken (Some Next) w = false
not_taken (Some (Writing t n)) w = false
not_taken (Some (Reading t n)) w = not (fits t (begins_at w.given (read_place t w.places)) (n - 3))

-- "every command word closes an open transfer"; an accepted load, read or command 1 then opens its own, no word along
abbrev pub opens_after : Option Order → Words → Transfer
opens_after None w = Idle
opens_after (Some Stop) w = Idle
opens_after (Some Restart) w = Idle
opens_after (Some Next) w = Address
opens_after (Some (Writing t n)) w = Load (header t n) 0
opens_after (Some (Reading t n)) w =
    cond (not_taken (Some (Reading t n)) w) Idle (Read (header t n) 0 (begins_at w.given (read_place t w.places)))

-- a data word goes one word along, its last word closes, and "with no transfer that way" it "closes any other transfer"
abbrev pub opens_in : Transfer → Transfer
opens_in Idle = Idle
opens_in Address = Idle
opens_in (Load h k) = cond (ltb (k + 1) h.n) (Load h (k + 1)) Idle
opens_in (Read h k at) = Idle

abbrev pub opens_out : Transfer → Transfer
opens_out Idle = Idle
opens_out Address = Idle
opens_out (Load h k) = Idle
opens_out (Read h k at) = cond (ltb (k + 1) h.n) (Read h (k + 1) at) Idle

-- ---- message error

-- a command word: "closing one before its last word sets message error", and so does an order that is not taken
abbrev pub errs_after : Option Order → Words → Bool
errs_after o w = w.error || (is_open w.transfer || not_taken o w)

-- a data word written: "with no transfer that way sets message error"; a load "is judged with its last word"
abbrev pub errs_in : Transfer → ℕ → List ℕ → Bool → Bool
errs_in Idle x l e = true
errs_in Address x l e = e
errs_in (Load h k) x l e = e || (not (ltb (k + 1) h.n) && not (load_right h (set l k x)))
errs_in (Read h k at) x l e = true

abbrev pub errs_out : Transfer → Bool → Bool
errs_out Idle e = true
errs_out Address e = true
errs_out (Load h k) e = true
errs_out (Read h k at) e = e

-- ---- the read places, and the given address

-- "An accepted read at once puts that place just behind its last data word"; "read places 0"
abbrev pub places_after : Option Order → Words → Places
places_after None w = w.places
places_after (Some Stop) w = w.places
places_after (Some Restart) w = record { five = 0; six = 0; seven = 0 }
places_after (Some Next) w = w.places
places_after (Some (Writing t n)) w = w.places
places_after (Some (Reading t n)) w =
    cond (not_taken (Some (Reading t n)) w) w.places (with_read_place t (begins_at w.given (read_place t w.places) + (n - 3)) w.places)

-- the given address is "used up by an accepted read"; "no address given"
abbrev pub given_after : Option Order → Words → Option ℕ
given_after None w = w.given
given_after (Some Stop) w = w.given
given_after (Some Restart) w = None
given_after (Some Next) w = w.given
given_after (Some (Writing t n)) w = w.given
given_after (Some (Reading t n)) w = cond (not_taken (Some (Reading t n)) w) w.given None

-- command 1's word is the "next read address"
abbrev pub given_in : Transfer → ℕ → Option ℕ → Option ℕ
given_in Idle x g = g
given_in Address x g = Some x
given_in (Load h k) x g = g
given_in (Read h k at) x g = g

-- ---- the words of a load, and the tables

-- a load's words gather, each in its place
abbrev pub load_in : Transfer → ℕ → List ℕ → List ℕ
load_in Idle x l = l
load_in Address x l = l
load_in (Load h k) x l = set l k x
load_in (Read h k at) x l = l

abbrev pub is_restart : Option Order → Bool
is_restart None = false
is_restart (Some Stop) = false
is_restart (Some Restart) = true
is_restart (Some Next) = false
is_restart (Some (Writing t n)) = false
is_restart (Some (Reading t n)) = false

-- the tables with a load of these words: where every check passes the addressed words of its table are new, else none is
abbrev pub judged : Header → List ℕ → Three → Three
judged h xs s = cond (load_right h xs) (with_table h.table (stored_in h xs (words_of h.table s)) s) s

-- a load "changes the addressed words and no other", and only with its last word
abbrev pub tables_in : Transfer → ℕ → Desk → Three
tables_in Idle x d = d.tables
tables_in Address x d = d.tables
tables_in (Load h k) x d = cond (ltb (k + 1) h.n) d.tables (judged h (set d.load k x) d.tables)
tables_in (Read h k at) x d = d.tables

-- ---- all of it

-- the port, the words of a load, and the tables by what they were
pub record Heard : Type 0 where
  pub words : Words
  pub load : List ℕ
  pub tables : Three → Three

-- a Bool says whether the pod is initialised; the words of a load are so far l. Of the status word: "reading it clears the error"
unfoldable pub word_heard : WordCall → Bool → Words → List ℕ → Heard
word_heard (command x) on w l =
    let o = order_heard on x in
    record {
      words = record { transfer = opens_after o w; error = errs_after o w; places = places_after o w; given = given_after o w };
      load = l;
      tables = λ t. cond (is_restart o) starts t;
    }
word_heard (data_in x) on w l =
    let u = w.transfer in
    record {
      words = record { transfer = opens_in u; error = errs_in u x l w.error; places = w.places; given = given_in u x w.given };
      load = load_in u x l;
      tables = λ t. tables_in u x (desk t l);
    }
word_heard data_out on w l =
    let u = w.transfer in
    record {
      words = record { transfer = opens_out u; error = errs_out u w.error; places = w.places; given = w.given };
      load = l;
      tables = λ t. t;
    }
word_heard status on w l =
    record {
      words = record { transfer = w.transfer; error = false; places = w.places; given = w.given };
      load = l;
      tables = λ t. t;
    }
