-- What is still to be read goes behind what is stored. Assumes nothing.
use Rattle.std.proofs.Common.{arith, ◌*◌, ◌∙◌, ap, sym, drop, Option, length, ◌+◌, Bool}
use Rattle.std.specs.Bool.{then_some}
use Rattle.items.specs.Text.{behind_item}
use Rattle.items.proofs.Run.{ended, one_more, bad_end, part_on, all_read}
use Rattle.items.proofs.reading.items_in.Goals as goal

pub as_chunks-requires : goal.as_chunks-requires
as_chunks-requires g c = let k = g.met.T.Item.laws in (omega (arith, k.short), k.some)

pub returns-in_err-store : goal.returns-in_err-store
returns-in_err-store g c =
    let i = g.T.Item in
    let l = c.loop-n in
    let t = c.args.text.now in
    let e = c.as_chunks.ensures in
    let p = c.index-parts-n in
    let rest = i.text_of (drop ((l.n + 1) * g.row.N) t) in
    let next = part_on g.row.N i.item_of i.text_of g.met.T.Item.laws t l.n c.as_chunks.result.0.now p.result e.front e.front_len c.loop-n-test.true p.is in
    let none = ap (λ (x : Option g.row.T.Denot). behind_item x rest) (sym c.in_err-store.ensures) in
    let end = bad_end c.args.store.now l.store l.n (i.text_of (drop (l.n * g.row.N) t)) (i.text_of t) l.invariant.left (next ∙ none) in
    record { value = c.from_residual.ensures ∙ end.0; store_after = end.1 }

pub loop-n-preserved : goal.loop-n-preserved
loop-n-preserved g c =
    let i = g.T.Item in
    let l = c.loop-n in
    let t = c.args.text.now in
    let e = c.as_chunks.ensures in
    let p = c.index-parts-n in
    let v = c.in_ok-store.field-0 in
    let rest = i.text_of (drop ((l.n + 1) * g.row.N) t) in
    let next = part_on g.row.N i.item_of i.text_of g.met.T.Item.laws t l.n c.as_chunks.result.0.now p.result e.front e.front_len c.loop-n-test.true p.is in
    let some = ap (λ (x : Option g.row.T.Denot). behind_item x rest) (sym c.in_ok-store.ensures) in
    record {
      left = one_more l.store l.n v rest ∙ ap (ended l.store l.n) (sym (next ∙ some)) ∙ l.invariant.left;
    }

pub returns : goal.returns
returns g c =
    let i = g.T.Item in
    let l = c.loop-n in
    let e = c.as_chunks.ensures in
    let parts = c.as_chunks.result.0.now in
    let rest = c.as_chunks.result.1.now in
    let end = all_read g.row.N i.item_of i.text_of g.met.T.Item.laws c.args.text.now l.n c.args.store.now l.store (length parts) (length rest) (omega arith) e.front_len e.back_len l.invariant.left in
    record { value = c.then_some.ensures ∙ ap (λ (b : Bool). then_some b (length parts)) c.is_empty.ensures ∙ end.0; store_after = end.1 }
