use Rattle.std.proofs.Common.{rules, ◌≡◌, ◌<◌, ◌≤◌, ℕ, List, length, get_or, arith, sym}
use Rattle.std.proofs.lemmas.List.{get_or_past}
use borrow.Author.Tests.{ltb-true, ltb-false}
use lib.Dec.{ltb}
use Rattle.rows.proofs.Bool.{split}
use Rattle.std.proofs.lemmas.Nat.{le_bytes_8}
use Rattle.params.proofs.Numbers.{low_back, low_bytes}
use Rattle.params.proofs.kept.packed.Goals as goal

-- what holds of each place, and of the 0 behind the last one
each_byte : (l : List ℕ) (n : ℕ) → length l ≡ n → ((i : ℕ) → i < n → get_or l i 0 < 256) → (i : ℕ) → get_or l i 0 < 256
each_byte l n e f i =
    split (ltb i n) (λ t. f i (ltb-true i n t))
    (λ t.
    let past : length l ≤ i = omega (arith, ltb-false i n t) in
    rw (get_or_past l i 0 past) (omega arith))

pub returns : goal.returns
returns c =
    let long : length c.args.l ≡ 8 = search rules in
    let eight = le_bytes_8 c.args.l c.from_le_bytes.result long (each_byte c.args.l 8 long (λ i h. search rules)) c.from_le_bytes.ensures in
    let n = c.from_le_bytes.result in
    let low = low_back n (search rules) in
    record { low = (rw eight at (sym low), rw eight at (low_bytes n)); eight = eight }
