-- After n items the memory has n values stored, and what is still to be read goes behind them.
use Rattle.std.proofs.Common.{◌≡◌, ◌*◌, drop}
use Rattle.items.proofs.Run.{ended}
use Rattle.items.proofs.reading.items_in.Given as goal

abbrev pub invariant-loop-n : goal.invariant-loop-n
invariant-loop-n g l =
    let i = g.T.Item in
    record { left : ended l.store l.n (i.text_of (drop (l.n * g.row.N) l.text)) ≡ ended l.fn.store 0 (i.text_of l.text) }
