-- Each piece between two spaces is the next number. Assumes nothing.
use Rattle.std.proofs.Common.{rules, tests, arith, ◌≡◌, ◌∙◌, ◌==◌, ◌<◌, ◌≤◌, ◌+◌, sym, ap, refl, ℕ, List, [], length, get_or, map, drop, length-drop}
use Rattle.std.proofs.lemmas.Iterator.Splits.{YieldsList-from_slice_split}
use Rattle.std.proofs.lemmas.Iterator.Consumers.{YieldsList-turn, YieldsList-end}
use Rattle.std.proofs.lemmas.List.{length-set, length_push}
use Rattle.std.proofs.lemmas.List.Sums.{count_by-le-length}
use Rattle.std.proofs.lemmas.List.Splits.{length-slice_split}
use Rattle.std.specs.List.{slice_split}
use lib.ListN.{drop_of_length-le}
use Rattle.std.specs.Slice.Iter.{split_rest, split_done}
use Rattle.decimals.specs.Reading.{number_in, numbers_read}
use Rattle.decimals.proofs.Digits.{the_rest}
use Rattle.decimals.proofs.Pieces.{stored, all_left, none_left, one_more, no_room, next_number, numbers_of, no_numbers}
use Rattle.decimals.proofs.reading.numbers_in.Goals as goal

-- what stands between the spaces
abbrev pieces : List ℕ → List (List ℕ)
pieces t = slice_split (λ b. b == 32) (drop 1 t)

few : (t : List ℕ) → 1 ≤ length t → length (pieces t) ≤ length t
few t h = omega (arith, length-slice_split (λ b. b == 32) (drop 1 t), count_by-le-length (λ b. b == 32) (drop 1 t), length-drop 1 t)

-- behind the last one
finish : (c : goal.In-None) → length c.loop-piece.yielded ≡ length (pieces c.args.text.now)
finish c =
    let start = c.into_iter-piece-iterator.ensures.into_iter_gives in
    let cut = c.split-piece-items.ensures in
    (YieldsList-end {v = λ x. x.now}
    (YieldsList-from_slice_split {s = c.into_iter-piece-iterator.result} _ (λ b. b == 32) (drop 1 c.args.text.now)
    (ap split_rest start ∙ cut.rest ∙ the_rest c.args.text.now 1) (ap split_done start ∙ cut.done) refl (λ x b q k. search (rules, tests)))
    c.loop-piece.yielded _ c.loop-piece.yielded_by _ _ c.in-None.is c.next.ensures.steps).1

pub loop-piece-init : goal.loop-piece-init
loop-piece-init c =
    record { count = refl; size = refl; left = all_left _ _ ∙ ap numbers_read (sym (numbers_of c.args.text.now c.in-len1-up.len_at_least)) }

pub overflow_add-count : goal.overflow_add-count
overflow_add-count c =
    let l = c.loop-piece in
    let t = c.args.text.now in
    let start = c.into_iter-piece-iterator.ensures.into_iter_gives in
    let cut = c.split-piece-items.ensures in
    let here : (length l.yielded < length (pieces t)) × (c.in-Some.piece.now ≡ get_or (pieces t) (length l.yielded) c.in-Some.piece.now) =
    YieldsList-turn {v = λ x. x.now}
    (YieldsList-from_slice_split {s = c.into_iter-piece-iterator.result} _ (λ b. b == 32) (drop 1 t)
    (ap split_rest start ∙ cut.rest ∙ the_rest t 1) (ap split_done start ∙ cut.done) refl (λ x b q k. search (rules, tests)))
    l.yielded _ l.yielded_by _ _ c.in-Some.piece c.in-Some.is c.next.ensures.steps in
    let within : l.count < length t = omega (arith, here.0, few t (omega arith), l.invariant.count) in
    search rules

pub loop-piece-preserved : goal.loop-piece-preserved
loop-piece-preserved c =
    let l = c.loop-piece in
    let t = c.args.text.now in
    let ps = pieces t in
    let p = c.in-Some.piece.now in
    let start = c.into_iter-piece-iterator.ensures.into_iter_gives in
    let cut = c.split-piece-items.ensures in
    let here : (length l.yielded < length (pieces t)) × (c.in-Some.piece.now ≡ get_or (pieces t) (length l.yielded) c.in-Some.piece.now) =
    YieldsList-turn {v = λ x. x.now}
    (YieldsList-from_slice_split {s = c.into_iter-piece-iterator.result} _ (λ b. b == 32) (drop 1 t)
    (ap split_rest start ∙ cut.rest ∙ the_rest t 1) (ap split_done start ∙ cut.done) refl (λ x b q k. search (rules, tests)))
    l.yielded _ l.yielded_by _ _ c.in-Some.piece c.in-Some.is c.next.ensures.steps in
    let at : l.count ≡ length l.yielded = l.invariant.count in
    let rest = map number_in (drop (l.count + 1) ps) in
    let next = next_number ps l.count p (omega arith) (rw (← at) at here.1) in
    let left = ap (stored l.list l.count) (sym next) ∙ l.invariant.left in
    record {
      count = omega (arith, length_push l.yielded c.in-Some.piece);
      size = grind (arith, length-set l.list l.count (number_in p), l.invariant.size);
      left = grind (arith, one_more l.list l.count (number_in p) rest, no_room l.list l.count (number_in p) rest, left, l.invariant.size);
    }

pub returns-in_default : goal.returns-in_default
returns-in_default c = rw (no_numbers c.args.text.now c.in_default.len_below)

pub returns-in-None : goal.returns-in-None
returns-in-None c =
    let l = c.loop-piece in
    let ps = pieces c.args.text.now in
    let end = finish c in
    let none : drop l.count ps ≡ [] = drop_of_length-le ps {i = l.count} (omega (arith, l.invariant.count)) in
    none_left l.list l.count ∙ ap (λ (x : List (List ℕ)). stored l.list l.count (map number_in x)) (sym none) ∙ l.invariant.left
