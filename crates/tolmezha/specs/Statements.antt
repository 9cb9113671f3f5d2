-- What the library's numbers are worth, each sentence a statement.
-- Assumes nothing.
use Rattle.std.specs.Prelude.{ℕ, ◌^◌, ◌<◌, ◌≤◌, ◌≡◌, Bool, true, false, ◌&&◌, List, [], ◌∷◌, ◌++◌, map, ◌↔◌, ◌⊎◌, ℤ, pos, neg_ℤ, negsuc, length, take, drop, Result}
use Rattle.rows.specs.Rows.{Said, refused, gave, out}
use Rattle.packets.specs.declared.Command.{Command}
use Rattle.packets.specs.declared.Parsed.TheVariants.{Acknowledgement, Asked}
use Rattle.packets.specs.Reading.{packet_read}
use Rattle.packets.specs.Answers.{command_bytes, data_answer}
use Rattle.airframe.specs.declared.Refusal.{Refusal}
use Rattle.airframe.specs.declared.Form.{Form}
use Rattle.airframe.specs.declared.Form.TheVariants.{Taken, Failed}
use Rattle.airframe.specs.declared.Sending.TheVariants.{Awaiting}
use Rattle.airframe.specs.declared.Left.{Left}
use Rattle.airframe.specs.declared.Step.{Step}
use Rattle.airframe.specs.declared.Step.TheVariants.{Idle, Ended, Again, Lost}
use Rattle.airframe.specs.Building.{command_fits, command_wide, first_fits, acknowledgement_bytes, command_built, acknowledgement_built, built_said}
use Rattle.airframe.specs.Given.{command_typed}
use Rattle.airframe.specs.Reading.{Meant, done, failed, status, value, block, read_as}
use Rattle.airframe.specs.Sending.{Came, silence, answer, sent, steps_of}
use Rattle.tolmezha.specs.Numbers.{answered, numbered, command_answered, form_wide, acknowledgement_answered, kind_of, values_of, read_answered, block_answered, state_of, code_in, sends_in, sending_in, sent_answered, step_of, step_answered, Told, told, told_of}

-- ---- what an answer can mean: a wrong one is 23, a status has eight ids

unfoldable pub Whole : Said Meant → Type 0
Whole (refused n) = n ≡ 23
Whole (gave done) = Unit
Whole (gave (failed e)) = Unit
Whole (gave (status r request)) = length r.ids ≡ 8
Whole (gave (value id v)) = Unit
Whole (gave (block b)) = Unit

-- the block, which `tolmezha_block` copies
unfoldable pub block_meant : Said Meant → List ℕ
block_meant (refused n) = []
block_meant (gave done) = []
block_meant (gave (failed e)) = []
block_meant (gave (status r request)) = []
block_meant (gave (value id v)) = []
block_meant (gave (block b)) = b

-- ---- "one definition gives each answer its number": what leaves the same numbers, in C's own memory, is the same

pub record NumbersApart : Type 0 where
  pub built : (r s : Result ℕ Refusal) → answered (built_said r) ≡ answered (built_said s) → r ≡ s
  pub meanings : (m n : Said Meant) (values : List ℤ) → length values ≡ 13 → Whole m → Whole n → block_meant m ≡ block_meant n
      → read_answered m values ≡ read_answered n values → m ≡ n
  pub steps : (r s : Step) → step_of r ≡ step_of s → r ≡ s
  pub states : (code : ℕ) (left : Left) → code < 2 ^ 8 → sending_in (state_of (Awaiting code left)) ≡ Awaiting code left

-- ---- "each promises the same definition that the function behind it promises, in numbers", where the fields' own types hold them;
-- else 20

pub record SameDefinition : Type 0 where
  pub commands : (c : Command) (room : List ℕ) → command_typed c ≡ true → command_answered c room ≡ numbered (command_built c room)
  pub too_large : (c : Command) (room : List ℕ) → command_typed c ≡ false → command_answered c room ≡ out (neg_ℤ (pos 20)) tt room
  pub acknowledgements : (f : ℕ) (form : Form) (room : List ℕ) → ((e : ℕ) → form ≡ Failed e → e < 2 ^ 8)
      → acknowledgement_answered f form room ≡ numbered (acknowledgement_built f form room)
  pub no_error : (f e : ℕ) (room : List ℕ) → 2 ^ 8 ≤ e → acknowledgement_answered f (Failed e) room ≡ out (neg_ℤ (pos 20)) tt room

-- ---- "A built command must be read by the pod as the same fields", and each form of an acknowledgement as that form: of any numbers

pub record LibraryIsRead : Type 0 where
  pub commands : (c : Command) (room : List ℕ) (n : ℕ) → (command_answered c room).said ≡ pos n
      → packet_read (take n (command_answered c room).lent) ≡ Asked c
  pub taken : (f : ℕ) (room : List ℕ) (n : ℕ) → (acknowledgement_answered f Taken room).said ≡ pos n
      → packet_read (take n (acknowledgement_answered f Taken room).lent) ≡ Acknowledgement f true
  pub failed : (f e : ℕ) (room : List ℕ) (n : ℕ) → (acknowledgement_answered f (Failed e) room).said ≡ pos n
      → packet_read (take n (acknowledgement_answered f (Failed e) room).lent) ≡ Acknowledgement f false

-- ---- "Refusals, lowest first": minus 20 exactly where a number is outside, minus 24 exactly where the room alone is too small, and
-- "none changes anything"; else the count, and the bytes with the rest of the room behind them

pub record RefusesBy (inside : Bool) (bytes room : List ℕ) (z : ℤ) (left : List ℕ) : Type 0 where
  pub outside : (z ≡ neg_ℤ (pos 20)) ↔ (inside ≡ false)
  pub short : (z ≡ neg_ℤ (pos 24)) ↔ ((inside ≡ true) × (length room < 25))
  pub kept : (n : ℕ) → z ≡ negsuc n → left ≡ room
  pub given : inside ≡ true → 25 ≤ length room → (z ≡ pos (length bytes)) × (left ≡ bytes ++ drop (length bytes) room)

pub record LibraryRefuses : Type 0 where
  pub commands : (c : Command) (room : List ℕ)
      → RefusesBy (command_wide c && command_fits c) (command_bytes c) room (command_answered c room).said (command_answered c room).lent
  pub acknowledgements : (f : ℕ) (form : Form) (room : List ℕ)
      → RefusesBy (first_fits f && form_wide form) (acknowledgement_bytes f form) room (acknowledgement_answered f form room).said (acknowledgement_answered f form room).lent

-- ---- "read an answer": its kind's values lie at the start of what is lent, with the rest behind them; a block is copied whole; a reply is
-- read as an answer to the state's code is

pub record LibraryReads : Type 0 where
  pub whole : (code : ℕ) (a : List ℕ) → Whole (read_as code a)
  pub placed : (m : Said Meant) (values : List ℤ) → length values ≡ 13 → Whole m
      → (read_answered m values).lent ≡ values_of m ++ drop (length (values_of m)) values
  pub copied : (code : ℕ) (b room : List ℕ) → length b ≡ 256 → length room ≡ 256 → block_answered (data_answer code b) room ≡ out (pos 256) tt b
  pub replied : (code sends : ℕ) (a : List ℕ) (kind : ℤ) (values : List ℤ) → code < 2 ^ 8 → 1 ≤ sends → sends ≤ 4
      → out (told_of (answer a) kind values (code ∷ sends ∷ [])).kind tt (told_of (answer a) kind values (code ∷ sends ∷ [])).values
      ≡ read_answered (read_as code a) values

-- ---- "the sending's steps": a first send is the code with four sends; a code that is no byte is 20, "and changes nothing"

pub record SentIs : Type 0 where
  pub a_byte : (code : ℕ) (s : List ℕ) → code < 2 ^ 8 → sent_answered code s ≡ out (pos 0) tt (code ∷ 4 ∷ [])
  pub no_byte : (code : ℕ) (s : List ℕ) → 2 ^ 8 ≤ code → sent_answered code s ≡ out (neg_ℤ (pos 20)) tt s

-- ---- "a sending state that is none is taken as over and kept": a code over a byte, no send left, or more than four

abbrev pub IsNone : List ℕ → Type 0
IsNone s = (2 ^ 8 ≤ code_in s) ⊎ ((sends_in s ≡ 0) ⊎ (4 < sends_in s))

pub record NoneIsKept : Type 0 where
  pub stepped : (s : List ℕ) (x : Came) → IsNone s → step_answered x s ≡ out (pos 0) tt s
  pub replied : (s : List ℕ) (x : Came) (kind : ℤ) (values : List ℤ) → IsNone s → told_of x kind values s ≡ told (pos 0) kind values s

-- ---- the steps over any replies, as C calls for them, are those of the sending, so all that is proved of these holds of those

unfoldable pub called : Came → ℤ → List ℤ → List ℕ → Told
called silence kind values s = told (step_answered silence s).said kind values (step_answered silence s).lent
called (answer a) kind values s = told_of (answer a) kind values s

unfoldable pub steps_in : ℤ → List ℤ → List ℕ → List Came → List ℤ
steps_in kind values s [] = []
steps_in kind values s (x ∷ xs) =
    (called x kind values s).step ∷ steps_in (called x kind values s).kind (called x kind values s).values (called x kind values s).state xs

abbrev pub StepsFollow : Type 0
StepsFollow =
    (code : ℕ) (s : List ℕ) (kind : ℤ) (values : List ℤ) (xs : List Came) → code < 2 ^ 8
    → steps_in kind values (sent_answered code s).lent xs ≡ map step_of (steps_of (sent code) xs)

-- ---- the numbers themselves, computed: a status in which no two bytes are alike, the kinds, the steps, and a state's way to the end

abbrev pub noughts : List ℤ
noughts = map pos (0 ∷ 0 ∷ 0 ∷ 0 ∷ 0 ∷ 0 ∷ 0 ∷ 0 ∷ 0 ∷ 0 ∷ 0 ∷ 0 ∷ 0 ∷ [])

pub record LibraryShown : Type 0 where
  pub a_status : read_answered (read_as 0x91 (0x91 ∷ 1 ∷ 2 ∷ 3 ∷ 4 ∷ 5 ∷ 6 ∷ 7 ∷ 8 ∷ 9 ∷ 10 ∷ 11 ∷ 12 ∷ 13 ∷ 14 ∷ 15 ∷ 16 ∷ 17 ∷ 18 ∷ 19 ∷ 0x6E ∷ 0x6F ∷ [])) noughts
      ≡ out (pos 2) tt (map pos (2 ∷ 0x0304 ∷ 0x0506 ∷ 0x0708090A ∷ 11 ∷ 12 ∷ 13 ∷ 14 ∷ 15 ∷ 16 ∷ 17 ∷ 18 ∷ 19 ∷ []))
  pub kinds : map kind_of (gave done ∷ gave (failed 9) ∷ gave (value 8 (pos 7)) ∷ gave (block []) ∷ refused 23 ∷ []) ≡ pos 0 ∷ pos 1 ∷ pos 3 ∷ pos 4 ∷ neg_ℤ (pos 23) ∷ []
  pub an_error : (read_answered (gave (failed 9)) noughts).lent ≡ map pos (9 ∷ 0 ∷ 0 ∷ 0 ∷ 0 ∷ 0 ∷ 0 ∷ 0 ∷ 0 ∷ 0 ∷ 0 ∷ 0 ∷ 0 ∷ [])
  pub a_value_lem : (read_answered (gave (value 8 (neg_ℤ (pos 7)))) noughts).lent ≡ pos 8 ∷ neg_ℤ (pos 7) ∷ map pos (0 ∷ 0 ∷ 0 ∷ 0 ∷ 0 ∷ 0 ∷ 0 ∷ 0 ∷ 0 ∷ 0 ∷ 0 ∷ [])
  pub steps : map step_of (Idle ∷ Ended ∷ Again ∷ Lost ∷ []) ≡ pos 0 ∷ pos 1 ∷ pos 2 ∷ pos 3 ∷ []
  pub three : step_answered silence (0x91 ∷ 4 ∷ []) ≡ out (pos 2) tt (0x91 ∷ 3 ∷ [])
  pub two : step_answered silence (0x91 ∷ 3 ∷ []) ≡ out (pos 2) tt (0x91 ∷ 2 ∷ [])
  pub one : step_answered silence (0x91 ∷ 2 ∷ []) ≡ out (pos 2) tt (0x91 ∷ 1 ∷ [])
  pub none : step_answered silence (0x91 ∷ 1 ∷ []) ≡ out (pos 3) tt (0 ∷ 0 ∷ [])

-- ---- all of them

pub record Library : Type 0 where
  pub numbers_apart : NumbersApart
  pub same_definition : SameDefinition
  pub is_read : LibraryIsRead
  pub refuses : LibraryRefuses
  pub reads : LibraryReads
  pub sent_is : SentIs
  pub none_is_kept : NoneIsKept
  pub steps_follow : StepsFollow
  pub shown : LibraryShown
