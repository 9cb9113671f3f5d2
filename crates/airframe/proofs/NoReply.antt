-- Which replies use up a send: none, a wrong answer, and error 0x01.
-- Assumes nothing.
use Prim.Native.Nat.{ℕ}
use native.Mathlib.Omega.{arith}
use mathlib.Core.Path.{◌≡◌, refl, ap}
use mathlib.Core.Bool.{true, not}
use mathlib.Core.List.{List}
use mathlib.Core.Logic.{◌⊎◌, inl, inr, ⊎_elim}
use borrow.Author.Tests.{eqb-true}
use lib.Dec.{eqb}
use Rattle.rows.specs.Rows.{Said, refused, gave}
use Rattle.rows.proofs.Bool.{by-test}
use Rattle.packets.specs.Reading.{second}
use Rattle.airframe.specs.Building.{refusal_number}
use Rattle.airframe.specs.Reading.{Meant, done, failed, status, value, block, answer_right, read_as}
use Rattle.airframe.specs.Sending.{answer, as_no_reply, unanswered}
use Rattle.airframe.specs.Statements.{AsNoReply}

-- the only refusal of a reader is 23
Only : Said Meant → Type 0
Only (refused n) = n ≡ 23
Only (gave m) = Unit {0}

only : (code : ℕ) (a : List ℕ) → Only (read_as code a)
unfolding Only read_as refusal_number
only code a = by-test Only (not (answer_right code a)) (λ _. refl) (λ _. by-test Only (eqb (second a) 0x09) (λ _. tt) (λ _. tt))

as_none : (s : Said Meant) → Only s → as_no_reply s ≡ true → (s ≡ refused 23) ⊎ (s ≡ gave (failed 0x01))
unfolding Only as_no_reply
as_none (refused n) h e = inl (ap refused h)
as_none (gave done) h e = let z : ◌≡◌ {A = ℕ} 0 1 = cc in absurd (omega arith)
as_none (gave (failed n)) h e = inr (ap (λ (k : ℕ). gave (failed k)) (eqb-true n 0x01 e))
as_none (gave (status r q)) h e = let z : ◌≡◌ {A = ℕ} 0 1 = cc in absurd (omega arith)
as_none (gave (value id v)) h e = let z : ◌≡◌ {A = ℕ} 0 1 = cc in absurd (omega arith)
as_none (gave (block b)) h e = let z : ◌≡◌ {A = ℕ} 0 1 = cc in absurd (omega arith)

counts : (code : ℕ) (a : List ℕ) → (read_as code a ≡ refused 23) ⊎ (read_as code a ≡ gave (failed 0x01)) → unanswered code (answer a) ≡ true
unfolding unanswered as_no_reply
counts code a w = ⊎_elim (λ e. rw e) (λ e. rw e) w

pub as_no_reply_lem : AsNoReply
unfolding unanswered
as_no_reply_lem =
    record { none_came = λ code. refl; some_came = λ code a. ((λ e. as_none (read_as code a) (only code a) e), counts code a) }
