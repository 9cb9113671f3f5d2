-- What each public function promises decides its result: whatever says the same is the same.
-- Assumes nothing.
use Prim.Native.Nat.{ℕ}
use mathlib.Core.Path.{◌≡◌, refl, sym, ap, ◌∙◌}
use mathlib.Core.Bool.{cond}
use mathlib.Core.List.{List}
use Rattle.std.specs.Prelude.{Option, Some, None, Result, Ok, Err}
use lib.Dec.{eqb}
use Rattle.rows.specs.Rows.{Said, refused, gave}
use Rattle.airframe.specs.declared.Refusal.{Refusal}
use Rattle.airframe.specs.declared.Refusal.TheVariants.{Field, Wrong, Room}
use Rattle.airframe.specs.declared.Meaning.{Meaning}
use Rattle.airframe.specs.declared.Meaning.TheVariants.{Done, Error, State, Value, Block}
use Rattle.airframe.specs.declared.Heard.{Heard}
use Rattle.airframe.specs.Building.{refusal_number, built_said}
use Rattle.airframe.specs.Reading.{Meant, done, failed, status, value, block, meaning_said}
use Rattle.airframe.specs.Sending.{Outcome, reply_said, heard_said}
use Rattle.airframe.specs.Statements.{BuildDecided, ReadDecided, HeardDecided}

-- ---- what was said, taken back

abbrev refusal : ℕ → Refusal
refusal n = cond (eqb n 20) Field (cond (eqb n 23) Wrong Room)

abbrev built_by : Said ℕ → Result ℕ Refusal
built_by (refused n) = Err (refusal n)
built_by (gave n) = Ok n

abbrev meaning_by : Said Meant → Result Meaning Refusal
meaning_by (refused n) = Err (refusal n)
meaning_by (gave done) = Ok Done
meaning_by (gave (failed e)) = Ok (Error e)
meaning_by (gave (status r q)) =
    Ok (State record { mode = r.mode; flags = r.flags; priority = r.priority; ordinary = r.ordinary; request = q })
meaning_by (gave (value id v)) = Ok (Value id v)
meaning_by (gave (block b)) = Ok Block

abbrev reply_by : Option (Said Meant) → Option (Result Meaning Refusal)
reply_by None = None
reply_by (Some m) = Some (meaning_by m)

abbrev heard_by : Outcome → Heard
heard_by o = record { step = o.step; reply = reply_by o.meant; sending = o.sending }

-- ---- and it is what said it

refusal_back : (r : Refusal) → refusal (refusal_number r) ≡ r
unfolding refusal_number
refusal_back Field = refl
refusal_back Wrong = refl
refusal_back Room = refl

built_back : (r : Result ℕ Refusal) → built_by (built_said r) ≡ r
unfolding built_said
built_back (Ok n) = refl
built_back (Err why) = ap Err (refusal_back why)

meaning_back : (m : Result Meaning Refusal) (a : List ℕ) → meaning_by (meaning_said m a) ≡ m
unfolding meaning_said
meaning_back (Err why) a = ap Err (refusal_back why)
meaning_back (Ok Done) a = refl
meaning_back (Ok (Error e)) a = refl
meaning_back (Ok (State s)) a = refl
meaning_back (Ok (Value id v)) a = refl
meaning_back (Ok Block) a = refl

reply-back : (r : Option (Result Meaning Refusal)) (a : List ℕ) → reply_by (reply_said r a) ≡ r
reply-back None a = refl
reply-back (Some m) a = ap Some (meaning_back m a)

heard-back : (h : Heard) (a : List ℕ) → heard_by (heard_said h a) ≡ h
unfolding heard_said
heard-back h a = ap (λ (r : Option (Result Meaning Refusal)). record { step = h.step; reply = r; sending = h.sending }) (reply-back h.reply a)

pub build_decided : BuildDecided
build_decided r s e = sym (built_back r) ∙ ap built_by e ∙ built_back s

pub read_decided : ReadDecided
read_decided r s a e = sym (meaning_back r a) ∙ ap meaning_by e ∙ meaning_back s a

pub heard_decided : HeardDecided
heard_decided r s a e = sym (heard-back r a) ∙ ap heard_by e ∙ heard-back s a
