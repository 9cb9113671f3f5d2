-- Loads and reads with the calls that come in between their words, and the tables and message error after any call.
-- Assumes nothing.
use Rattle.std.specs.Prelude.{ℕ, ◌+◌, ◌-◌, ◌<◌, ◌≡◌, Bool, true, false, not, ◌&&◌, ◌||◌, cond, List, [], ◌∷◌, ◌++◌, eqb, length, get_or, Some}
use Rattle.std.proofs.lemmas.List.Edits.{sets}
use Rattle.tables.specs.declared.Header.{Header}
use Rattle.tables.specs.declared.Words.{Words}
use Rattle.orders.specs.declared.Order.TheVariants.{Writing, Reading}
use Rattle.tables.specs.declared.Transfer.{Transfer}
use Rattle.tables.specs.declared.Transfer.TheVariants.{Idle, Address, Load, Read}
use Rattle.tables.specs.Tables.{Three, starts, tables_sized, words_of, read_place}
use Rattle.orders.specs.Command.{table_number, order_heard}
use Rattle.tables.specs.Port.{Desk, desk, data_count, fits, is_open, begins_at, close_of, with_transfer, with_error, load_right}
use Rattle.rules.specs.State.{sound_pod, with_words, with_desk}
use Rattle.rules.specs.Families.{WordCall, command}
use Rattle.rules.specs.Traits.{traits}
use Rattle.rules.specs.Heard.{judged, word_heard}
use Rattle.rules.specs.World.{World, world, with_pod, Call, power, packet, put, word, lone, samples, next}
use Rattle.rules.specs.History.{Event, nothing, begins, sleeps, updates, writes_parameter, opens_exchange, closes_exchange, hears_acknowledgement, puts, words, touches, events}

-- a world in which no row that applies to a table word holds
pub record Fit (w : World) : Type 0 where
  pub tables : tables_sized w.lent.tables ≡ true
  pub sound : sound_pod w.pod ≡ true
  -- the words of a load are an array of 64
  pub load : length w.lent.load ≡ 64

-- ---- the calls between

-- what closes an open transfer before its last word, its own words not counted: a table word by its traits, Shutdown, and all that
-- begins anew
abbrev pub cuts_load : WordCall → Bool
cuts_load c = (traits c).cutsload

abbrev pub cuts_read : WordCall → Bool
cuts_read c = (traits c).cutsread

unfoldable pub cuts : (WordCall → Bool) → Event → Bool
cuts f nothing = false
cuts f (begins a g) = true
cuts f sleeps = true
cuts f (updates g) = false
cuts f (writes_parameter id v) = false
cuts f (opens_exchange x) = false
cuts f closes_exchange = false
cuts f (hears_acknowledgement first one) = false
cuts f (puts s b) = false
cuts f (words c) = f c
cuts f (touches t l) = false

-- none of these does
unfoldable pub left_open : (WordCall → Bool) → List Event → Bool
left_open f [] = true
left_open f (e ∷ es) = not (cuts f e) && left_open f es

-- the data words that a call writes, and how many it reads
abbrev pub call_written : Call → List ℕ
call_written power = []
call_written (packet b room) = []
call_written (put s b) = []
call_written (word c) = (traits c).written
call_written (lone c) = []
call_written (samples k xs) = []

abbrev pub call_reads : Call → ℕ
call_reads power = 0
call_reads (packet b room) = 0
call_reads (put s b) = 0
call_reads (word c) = (traits c).reads
call_reads (lone c) = 0
call_reads (samples k xs) = 0

-- the data words written among some calls, the other calls, and how many data words are read
unfoldable pub written_in : List Call → List ℕ
written_in [] = []
written_in (c ∷ cs) = call_written c ++ written_in cs

unfoldable pub others_in : List Call → List Call
others_in [] = []
others_in (c ∷ cs) = cond (eqb (length (call_written c)) 0) (c ∷ others_in cs) (others_in cs)

unfoldable pub reads_in : List Call → ℕ
reads_in [] = 0
reads_in (c ∷ cs) = call_reads c + reads_in cs

-- ---- a load

-- the world with a load open of which no word has come, any other transfer being closed
abbrev pub opened : Header → World → World
opened h w = with_pod (with_words (with_transfer (Load h 0) (close_of w.pod.words)) w.pod) w

-- a world with these tables so, and its open load closed, message error being set where a check fails; all else is as it was
abbrev pub loaded : Header → List ℕ → Three → World → World
loaded h xs s w =
    world (with_words (with_transfer Idle (with_error (w.pod.words.error || not (load_right h xs)) w.pod.words)) w.pod)
    (with_desk (desk (judged h xs s) (sets w.lent.load 0 xs)) w.lent)

-- from its command word x on, whatever calls cs come in between that do not close it, a load's last word being y
pub record Loads (w : World) (x : ℕ) (h : Header) (cs : List Call) : Type 0 where
  pub fit : Fit w
  pub awake : w.pod.initialised ≡ true
  pub asked : order_heard true x ≡ Some (Writing h.table h.n)
  pub still : left_open cuts_load (events (opened h w) cs) ≡ true
  pub last : length (written_in cs) + 1 ≡ h.n

-- an open load, and calls bs that do not close it and do not bring its last word
pub record Loading (w : World) (h : Header) (bs : List Call) : Type 0 where
  pub fit : Fit w
  pub begun : w.pod.words.transfer ≡ Load h 0
  pub still : left_open cuts_load (events w bs) ≡ true
  pub short : length (written_in bs) < h.n

-- ---- a read

-- "A read of N gives the same three header words and N-3 data words": word k, from 0, of the tables as they are
unfoldable pub word_shown : Header → ℕ → Three → ℕ → ℕ
word_shown h at s k =
    cond (eqb k 0) (table_number h.table)
    (cond (eqb k 1) at
    (cond (eqb k 2) (h.n - 3)
    (get_or (words_of h.table s) (at + (k - 3)) 0)))

-- what a data word reads as: "with no transfer that way .. reads as 0"
abbrev pub read_as : Transfer → Three → ℕ
read_as Idle s = 0
read_as Address s = 0
read_as (Load h k) s = 0
read_as (Read h k at) s = word_shown h at s k

-- from its command word x on, whatever calls cs come in between that do not close it, fewer than N words being read
pub record Reads (w : World) (x : ℕ) (h : Header) (at : ℕ) (cs : List Call) : Type 0 where
  pub fit : Fit w
  pub awake : w.pod.initialised ≡ true
  pub asked : order_heard true x ≡ Some (Reading h.table h.n)
  -- "starting at the given address .., else at that table's read place"
  pub begun : at ≡ begins_at w.pod.words.given (read_place h.table w.pod.words.places)
  -- not "a read that would pass its table's end"
  pub within : fits h.table at (data_count h) ≡ true
  pub still : left_open cuts_read (events (next w (word (command x))) cs) ≡ true
  pub short : reads_in cs < h.n

-- ---- message error

-- after any call, e before it, by the open transfer and the words of a load so far; on says whether the pod was initialised
unfoldable pub error_by : Event → Bool → Words → List ℕ → Bool → Bool
error_by nothing on w l e = e
error_by (begins a f) on w l e = false
error_by sleeps on w l e = e || is_open w.transfer
error_by (updates f) on w l e = e
error_by (writes_parameter id v) on w l e = e
error_by (opens_exchange x) on w l e = e
error_by closes_exchange on w l e = e
error_by (hears_acknowledgement first one) on w l e = e
error_by (puts s b) on w l e = e
error_by (words c) on w l e = (word_heard c on (with_error e w) l).words.error
error_by (touches t b) on w l e = e

-- ---- the tables

-- the tables after any call: power on and an accepted Initialise leave "tables .. at their starts"
unfoldable pub tables_by : Event → Bool → Words → Desk → Three
tables_by nothing on w d = d.tables
tables_by (begins a f) on w d = starts
tables_by sleeps on w d = d.tables
tables_by (updates f) on w d = d.tables
tables_by (writes_parameter id v) on w d = d.tables
tables_by (opens_exchange x) on w d = d.tables
tables_by closes_exchange on w d = d.tables
tables_by (hears_acknowledgement first one) on w d = d.tables
tables_by (puts s b) on w d = d.tables
tables_by (words c) on w d = (word_heard c on w d.load).tables d.tables
tables_by (touches t l) on w d = d.tables
