-- Each way out is one law of the answer that is due.
use native.Mathlib.Omega.{arith}
use mathlib.Core.Path.{◌≡◌, sym, ap, ◌∙◌}
use Prim.Native.Nat.{ℕ}
use mathlib.Core.Bool.{true, false}
use mathlib.Core.List.{List}
use mathlib.Core.Logic.{⊎_elim}
use lib.Dec.{eqb}
use lib.ListN.{length}
use Rattle.rows.specs.Rows.{gave}
use Rattle.packets.specs.declared.codes.Code.{Code}
use Rattle.packets.specs.declared.codes.Code.TheVariants.{Initialise, Status, Update, Write, Read, Priority, Data, Shutdown}
use Rattle.packets.specs.Reading.{second}
use borrow.Author.Tests.{eq-eqb, ne_eqb}
use mir.Syntax.{w32}
use mir.Val.{to_z, of_z}
use Rattle.std.proofs.lemmas.Result.{err_from_is_err_and}
use Rattle.packets.specs.Codes.{code_number}
use Rattle.packets.specs.Commands.{code_row, find_in}
use Rattle.airframe.specs.Building.{refusal_number}
use Rattle.airframe.specs.Reading.{body_meant, meaning_said, answer_right, read_as}
use Rattle.airframe.proofs.Due.{unusable, no_code, long, failure, whole, success}
use borrow.Author.Rules.{rules}
use Rattle.airframe.proofs.reading.read.Goals as goal

-- a right answer that is no error, by the command
module _ (code : Code) (a : List ℕ) (right : answer_right (code_number code) a ≡ true) (other : eqb (second a) 0x09 ≡ false) where
  has : (k : Code) → code ≡ k → length a ≡ (code_row (code_number k)).answer
  has k e = whole _ a right other (code_number k) (ap code_number e)

  shows : (k : Code) → code ≡ k → read_as (code_number code) a ≡ gave (body_meant ((code_row (code_number k)).command a) a)
  shows k e = success _ a right other (code_number k) (ap code_number e)

pub returns-in_err-code : goal.returns-in_err-code
unfolding meaning_said refusal_number
returns-in_err-code c =
    let p = err_from_is_err_and c.from_residual.result c.from_residual.ensures.1 in
    rw (p.1, p.2) (sym (no_code _ _ c.in_err-code.ensures.1))

pub returns-then-not-right : goal.returns-then-not-right
unfolding meaning_said refusal_number
returns-then-not-right c = rw (← c.in_ok-code.ensures) (sym (unusable _ _ (sym c.right.ensures ∙ c.if-not-right.true)))

-- behind the first test the answer is right, and so has five bytes
pub bounds-answer-1 : goal.bounds-answer-1
bounds-answer-1 c = omega (arith, long _ c.args.answer.now (sym c.right.ensures ∙ c.if-not-right.false))

pub bounds-answer-2 : goal.bounds-answer-2
bounds-answer-2 c = omega (arith, long _ c.args.answer.now (sym c.right.ensures ∙ c.if-not-right.false))

pub returns-then-answer-eq9 : goal.returns-then-answer-eq9
unfolding meaning_said
returns-then-answer-eq9 c = rw (← c.in_ok-code.ensures) (sym (failure _ _ (sym c.right.ensures ∙ c.if-not-right.false) (eq-eqb _ _ c.if-answer-eq9.true)))

pub status_in-requires : goal.status_in-requires
unfolding code_number code_row find_in
status_in-requires c = omega (arith, has _ c.args.answer.now (sym c.right.ensures ∙ c.if-not-right.false) (ne_eqb _ _ c.if-answer-eq9.false) Status c.in-Status.is)

pub bounds-answer-2-in-Read : goal.bounds-answer-2-in-Read
bounds-answer-2-in-Read c = omega (arith, long _ c.args.answer.now (sym c.right.ensures ∙ c.if-not-right.false))

pub four_at-requires : goal.four_at-requires
unfolding code_number code_row find_in
four_at-requires c = omega (arith, has _ c.args.answer.now (sym c.right.ensures ∙ c.if-not-right.false) (ne_eqb _ _ c.if-answer-eq9.false) Read c.in-Read.is)

pub returns-in-Status : goal.returns-in-Status
unfolding meaning_said body_meant code_number code_row find_in
returns-in-Status c =
    rw (← c.in_ok-code.ensures, c.status_in.ensures.0, c.status_in.ensures.1)
    (sym (shows _ _ (sym c.right.ensures ∙ c.if-not-right.false) (ne_eqb _ _ c.if-answer-eq9.false) Status c.in-Status.is))

pub returns-in-Read : goal.returns-in-Read
unfolding meaning_said body_meant code_number code_row find_in
returns-in-Read c =
    let back : to_z w32 (of_z w32 c.signed.result) ≡ c.signed.result = search rules in
    rw (← c.in_ok-code.ensures, back, c.signed.ensures, c.four_at.ensures) (sym (shows _ _ (sym c.right.ensures ∙ c.if-not-right.false) (ne_eqb _ _ c.if-answer-eq9.false) Read c.in-Read.is))

pub returns-in-Priority : goal.returns-in-Priority
unfolding meaning_said body_meant code_number code_row find_in
returns-in-Priority c =
    let by = shows _ c.args.answer.now (sym c.right.ensures ∙ c.if-not-right.false) (ne_eqb _ _ c.if-answer-eq9.false) in
    rw (← c.in_ok-code.ensures) (sym (⊎_elim (by Priority) (by Data) c.in-Priority.is))

pub returns-in-Initialise : goal.returns-in-Initialise
unfolding meaning_said body_meant code_number code_row find_in
returns-in-Initialise c =
    let by = shows _ c.args.answer.now (sym c.right.ensures ∙ c.if-not-right.false) (ne_eqb _ _ c.if-answer-eq9.false) in
    rw (← c.in_ok-code.ensures)
    (sym (⊎_elim (by Initialise) (λ u. ⊎_elim (by Update) (λ v. ⊎_elim (by Write) (by Shutdown) v) u) c.in-Initialise.is))
