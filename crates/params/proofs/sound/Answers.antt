use Rattle.std.proofs.Common.{rules, ◌≡◌, ◌&&◌, Bool, List, length, [], ◌∷◌, ℤ, arith, sym, ap, ◌∙◌, to_z, of_z, w32}
use mathlib.Core.Bool.{and-true, and_assoc}
use mathlib.Core.Logic.{⊎_elim, ◌⊎◌}
use Rattle.std.specs.Slice.Iter.{iter_rest}
use Rattle.std.proofs.lemmas.Slice.Zip.{Zip-more, either_empty_from_Zip}
use Rattle.params.specs.declared.ParamRow.{ParamRow}
use Rattle.params.specs.Rows.{param_rows}
use Rattle.params.specs.Rules.{in_rows, in_span, list_kept, sound_params}
use Rattle.params.proofs.sound.Goals as goal

-- where no pair is left the flag has decided
decided : (ok whole : Bool) (rows : List ParamRow) (values : List ℤ) → length rows ≡ length values → ok && in_rows rows values ≡ whole
    → (rows ≡ []) ⊎ (values ≡ []) → ok ≡ whole
unfolding in_rows
decided ok whole [] [] e j d = sym (and-true ok) ∙ j
decided ok whole [] (v ∷ vs) e j d = absurd (omega (arith, e))
decided ok whole (r ∷ rs) [] e j d = absurd (omega (arith, e))
decided ok whole (r ∷ rs) (v ∷ vs) e j d = ⊎_elim (λ z. cc) (λ z. cc) d

pub loop-row-init : goal.loop-row-init
loop-row-init c =
    let rows : iter_rest c.into_iter-row-iterator.result.a ≡ param_rows = cc (c.iter.ensures.rest) in
    let values : iter_rest c.into_iter-row-iterator.result.b ≡ c.args.p.now.values = cc (c.zip-row-items.ensures.second.0) in
    let twelve : length c.args.p.now.values ≡ 12 = search rules in
    record { as_long = rw (rows, values, twelve); judged = rw (rows, values) }

pub loop-row-preserved : goal.loop-row-preserved
unfolding in_rows
loop-row-preserved c =
    let at = c.loop-row in
    let more = Zip-more at.row-iterator c.next.new.self c.next.result (c.in-Some.row, c.in-Some.v) c.in-Some.is c.next.ensures.steps in
    let turn = rw (more.0, more.1) at at.invariant.judged in
    let back : to_z w32 (of_z w32 c.in-Some.v.now) ≡ c.in-Some.v.now = search rules in
    record { as_long = omega (arith, ap length more.0, ap length more.1); judged = rw (c.in_row-ok.ensures, back) (and_assoc at.ok _ _ ∙ turn) }

pub returns : goal.returns
unfolding sound_params
returns c =
    let at = c.loop-row in
    let none = decided _ _ _ _ at.invariant.as_long at.invariant.judged (either_empty_from_Zip at.row-iterator c.next.new.self c.next.result c.in-None.is c.next.ensures.steps) in
    let p = c.args.p.now in
    rw (none, c.in_span.ensures, c.listed.ensures) (and_assoc (in_rows param_rows p.values) (in_span p) (list_kept p))
