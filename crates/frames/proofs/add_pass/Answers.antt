use Rattle.std.proofs.Common.{rules, ◌≡◌, ◌+◌, ◌*◌, ◌<◌, ◌≤◌, ℕ, List, get_or, set, sym, ◌∙◌}
use Rattle.frames.specs.Samples.{sum_of}
use Rattle.frames.proofs.Mixed.{mixed, mixed-at, mixed_more}
use Rattle.frames.proofs.Bounds.{each_bounded}
use Rattle.frames.proofs.Sums.{sums_of, sums_at, length_sums, sum_more, sum-most}
use Rattle.frames.proofs.add_pass.Goals as goal

-- the sum that stands at a channel before its turn
held : (xs : List ℕ) (p c : ℕ) → c < 8 → get_or (mixed (sums_of (p + 1) xs) (sums_of p xs) c) c 0 ≡ sum_of p xs c
held xs p c h = mixed-at (sums_of (p + 1) xs) (sums_of p xs) 8 (length_sums (p + 1) xs) (length_sums p xs) c h ∙ sums_at p xs c h

pub overflow_add-out-in-loop-c : goal.overflow_add-out-in-loop-c
overflow_add-out-in-loop-c c =
    let a = c.args in
    let xs = a.samples.now in
    let i = c.loop-c.c in
    let was = held xs a.p i (search rules) in
    let now : get_or c.loop-c.out i 0 ≡ sum_of a.p xs i = cc in
    let most : sum_of a.p xs i ≤ a.p * 1023 = sum-most a.p xs i c.requires.1 in
    let one : get_or xs (a.p * 8 + i) 0 ≤ 1023 = each_bounded xs (a.p * 8 + i) c.requires.1 in
    search rules

pub loop-c-preserved : goal.loop-c-preserved
loop-c-preserved c =
    let a = c.args in
    let xs = a.samples.now in
    let i = c.loop-c.c in
    let here : i < 8 = search rules in
    let next : set (mixed (sums_of (a.p + 1) xs) (sums_of a.p xs) i) i (sum_of a.p xs i + get_or xs (a.p * 8 + i) 0) ≡ mixed (sums_of (a.p + 1) xs) (sums_of a.p xs) (i + 1) =
    mixed_more (sums_of (a.p + 1) xs) (sums_of a.p xs) 8 (length_sums (a.p + 1) xs) (length_sums a.p xs) i _ here (sym (sums_at (a.p + 1) xs i here ∙ sum_more a.p xs i)) in
    cc (held xs a.p i here)
