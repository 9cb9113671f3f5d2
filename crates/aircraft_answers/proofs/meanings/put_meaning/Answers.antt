-- Each meaning by its words.
use native.Mathlib.Omega.{arith}
use borrow.Author.Rules.{rules}
use mathlib.Core.Path.{◌≡◌, refl, ap, ◌∙◌}
use mathlib.Core.List.{List, ◌∷◌, ◌++◌}
use Prim.Native.Nat.{ℕ}
use lib.ListN.{length}
use mir.Syntax.{w32}
use mir.Val.{to_z, of_z}
use Rattle.std.specs.Prelude.{Ok}
use Rattle.rows.specs.Rows.{gave}
use Rattle.items.specs.Text.{spell}
use Rattle.items.specs.Printed.{decimal}
use Rattle.items.proofs.Behind.{both, renamed}
use Rattle.airframe.specs.Reading.{status, shown_report, meaning_said}
use Rattle.aircraft_answers.specs.Words.{characters, meant_text}
use Rattle.aircraft_answers.proofs.Texts.{few_ids, one_block, error_text, block_text}
use Rattle.aircraft_answers.proofs.meanings.put_meaning.Goals as goal

pub returns-in-Err : goal.returns-in-Err
unfolding meaning_said meant_text
returns-in-Err c =
    let number = c.from-in-Err.ensures ∙ c.from.ensures in
    rw c.in-Err.is (renamed _ 773 (ap (λ (n : ℕ). 32 ∷ 33 ∷ decimal n) number) (omega arith) (both c.append.ensures c.put_number.ensures))

pub returns-in-Ok-Done : goal.returns-in-Ok-Done
unfolding meaning_said meant_text
returns-in-Ok-Done c = rw (c.in-Ok-Done.is ∙ ap Ok (rw c.in-Ok-Done.is at c.in-Ok-Done.field-0-is)) (renamed _ 773 refl (omega arith) c.append-in-Ok-Done.ensures)

pub returns-in-Ok-Error : goal.returns-in-Ok-Error
unfolding meaning_said
returns-in-Ok-Error c = rw (c.in-Ok-Error.is ∙ ap Ok (rw c.in-Ok-Error.is at c.in-Ok-Error.field-0-is)) (renamed _ 773 (error_text _) (omega arith) c.put_listed.ensures)

pub returns-in-Ok-State : goal.returns-in-Ok-State
unfolding meaning_said
returns-in-Ok-State c =
    let s = c.in-Ok-State.shown in
    rw (c.in-Ok-State.is ∙ ap Ok (rw c.in-Ok-State.is at c.in-Ok-State.field-0-is))
    (renamed _ 773 (ap (λ (ids : List ℕ). meant_text (gave (status (shown_report s ids) s.request))) c.ids.ensures) (omega arith) c.put_status.ensures)

pub returns-in-Ok-Value : goal.returns-in-Ok-Value
unfolding meaning_said
returns-in-Ok-Value c =
    let v = c.in-Ok-Value.v in
    let back : to_z w32 (of_z w32 v) ≡ v = search rules in
    rw (c.in-Ok-Value.is ∙ ap Ok (rw c.in-Ok-Value.is at c.in-Ok-Value.field-0-is)) (renamed _ 773 refl (omega arith) (rw back at c.put_value.ensures))

pub returns-in-Ok-Block : goal.returns-in-Ok-Block
unfolding meaning_said
returns-in-Ok-Block c =
    rw (c.in-Ok-Block.is ∙ ap Ok (rw c.in-Ok-Block.is at c.in-Ok-Block.field-0-is))
    (renamed _ 773 (ap (λ (b : List ℕ). characters " data" ++ spell b) c.block.ensures ∙ block_text _) (omega arith) c.put_listed-in-Ok-Block.ensures)

pub put_status-requires : goal.put_status-requires
put_status-requires c = (omega (arith, ap length c.ids.ensures, few_ids c.args.answer.now), omega arith)

pub put_listed-requires-in-Ok-Block : goal.put_listed-requires-in-Ok-Block
put_listed-requires-in-Ok-Block c = (omega (arith, ap length c.block.ensures, one_block c.args.answer.now), omega arith)
