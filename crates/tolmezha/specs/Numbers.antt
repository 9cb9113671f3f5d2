-- What a program in C is told, in numbers: the definitions of `airframe`, each answer by its number.
-- Assumes nothing.
use Rattle.std.specs.Prelude.{ℕ, ◌^◌, Bool, true, ◌&&◌, cond, List, [], ◌∷◌, map, ltb, eqb, ℤ, pos, neg_ℤ, length, get_or, Option, Some, None}
use Rattle.std.proofs.lemmas.List.Edits.{sets}
use Rattle.rows.specs.Rows.{Said, refused, gave, Out, out, ran}
use Rattle.packets.specs.declared.Command.{Command}
use Rattle.packets.specs.Answers.{command_bytes}
use Rattle.airframe.specs.declared.Form.{Form}
use Rattle.airframe.specs.declared.Form.TheVariants.{Taken, Failed}
use Rattle.airframe.specs.declared.Left.{Left}
use Rattle.airframe.specs.declared.Left.TheVariants.{Nought, One, Two, Three}
use Rattle.airframe.specs.declared.Sending.{Sending}
use Rattle.airframe.specs.declared.Sending.TheVariants.{Over, Awaiting}
use Rattle.airframe.specs.declared.Step.{Step}
use Rattle.airframe.specs.declared.Step.TheVariants.{Idle, Ended, Again, Lost}
use Rattle.airframe.specs.Building.{command_fits, command_wide, first_fits, acknowledgement_bytes, field_row, build_of}
use Rattle.airframe.specs.Reading.{Meant, done, failed, status, value, block, block_in}
use Rattle.airframe.specs.Sending.{is_over, Came, sent, heard_of}

abbrev pub is_byte : ℕ → Bool
is_byte n = ltb n (2 ^ 8)

-- "a length, or minus the refusal's number"
abbrev pub answered : Said ℕ → ℤ
answered (refused n) = neg_ℤ (pos n)
answered (gave n) = pos n

-- beside what is lent
abbrev pub numbered : Out (Said ℕ) (Unit {0}) (List ℕ) → Out ℤ (Unit {0}) (List ℕ)
numbered o = out (answered o.said) o.pod o.lent

-- ---- building. Every number comes as 32 bits, since C cuts one that is too large for a narrower argument and says nothing: a number
-- that is too large for its bytes is outside its bounds, 20

unfoldable pub command_answered : Command → List ℕ → Out ℤ (Unit {0}) (List ℕ)
command_answered c room = numbered (build_of (command_wide c && command_fits c) (command_bytes c) room)

-- an error byte is a byte
abbrev pub form_wide : Form → Bool
form_wide Taken = true
form_wide (Failed e) = is_byte e

unfoldable pub acknowledgement_answered : ℕ → Form → List ℕ → Out ℤ (Unit {0}) (List ℕ)
acknowledgement_answered first form room = numbered (build_of (first_fits first && form_wide form) (acknowledgement_bytes first form) room)

-- ---- reading: "a meaning's kind and values"

abbrev pub kind_of : Said Meant → ℤ
kind_of (refused n) = neg_ℤ (pos n)
kind_of (gave done) = pos 0
kind_of (gave (failed e)) = pos 1
kind_of (gave (status r request)) = pos 2
kind_of (gave (value id v)) = pos 3
kind_of (gave (block b)) = pos 4

-- the values of a status stand as its body has them; those of a block are the answer's own bytes
abbrev pub values_of : Said Meant → List ℤ
values_of (refused n) = []
values_of (gave done) = []
values_of (gave (failed e)) = pos e ∷ []
values_of (gave (status r request)) =
    map pos (r.mode ∷ r.flags ∷ r.priority ∷ r.ordinary ∷ request ∷ r.ids)
values_of (gave (value id v)) = pos id ∷ v ∷ []
values_of (gave (block b)) = []

-- the values lie at the start of what is lent, and the rest of it is kept
abbrev pub read_answered : Said Meant → List ℤ → Out ℤ (Unit {0}) (List ℤ)
read_answered m values = out (kind_of m) tt (sets values 0 (values_of m))

abbrev pub block_answered : List ℕ → List ℕ → Out ℤ (Unit {0}) (List ℕ)
block_answered a room = out (pos (length (block_in a))) tt (sets room 0 (block_in a))

-- ---- sending: a state is the code of what is on its way, and how many sends it has with the one under way, 0 where it is over

abbrev pub sends_of : Left → ℕ
sends_of Nought = 1
sends_of One = 2
sends_of Two = 3
sends_of Three = 4

abbrev pub state_of : Sending → List ℕ
state_of Over = 0 ∷ 0 ∷ []
state_of (Awaiting code left) = code ∷ sends_of left ∷ []

abbrev pub code_in : List ℕ → ℕ
code_in s = get_or s 0 0

abbrev pub sends_in : List ℕ → ℕ
sends_in s = get_or s 1 0

abbrev pub awaiting_in : ℕ → ℕ → Sending
awaiting_in code sends =
    cond (eqb sends 1) (Awaiting code Nought)
    (cond (eqb sends 2) (Awaiting code One)
    (cond (eqb sends 3) (Awaiting code Two)
    (cond (eqb sends 4) (Awaiting code Three)
    Over)))

-- "a sending state that is none is taken as over": a code that is no byte, no send, or more than four
unfoldable pub sending_in : List ℕ → Sending
sending_in s = cond (is_byte (code_in s)) (awaiting_in (code_in s) (sends_in s)) Over

-- "and kept": a step changes what was on its way and nothing else
abbrev pub state_after : List ℕ → Sending → List ℕ
state_after s next = cond (is_over (sending_in s)) s (state_of next)

-- 20: the code is no byte
unfoldable pub sent_answered : ℕ → List ℕ → Out ℤ (Unit {0}) (List ℕ)
sent_answered code s = numbered (ran (field_row (is_byte code) ∷ []) tt s (out 0 tt (state_of (sent code))))

abbrev pub step_of : Step → ℤ
step_of Idle = pos 0
step_of Ended = pos 1
step_of Again = pos 2
step_of Lost = pos 3

abbrev pub step_answered : Came → List ℕ → Out ℤ (Unit {0}) (List ℕ)
step_answered x s = out (step_of (heard_of (sending_in s) x).step) tt (state_after s (heard_of (sending_in s) x).sending)

-- a reply says what it was read as beside the step, where it was read
pub record Told : Type 0 where
  pub step : ℤ
  pub kind : ℤ
  pub values : List ℤ
  pub state : List ℕ

abbrev pub told : ℤ → ℤ → List ℤ → List ℕ → Told
told step kind values state = record { step = step; kind = kind; values = values; state = state }

abbrev pub read_told : Option (Said Meant) → ℤ → List ℤ → Out ℤ (Unit {0}) (List ℤ)
read_told None kind values = out kind tt values
read_told (Some m) kind values = read_answered m values

abbrev pub told_beside : Option (Said Meant) → Came → ℤ → List ℤ → List ℕ → Told
told_beside m x kind values s =
    told (step_answered x s).said (read_told m kind values).said (read_told m kind values).lent (step_answered x s).lent

abbrev pub told_of : Came → ℤ → List ℤ → List ℕ → Told
told_of x kind values s = told_beside (heard_of (sending_in s) x).meant x kind values s
