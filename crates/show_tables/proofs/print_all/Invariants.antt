-- `show_tables::print_all`: no more words are accepted than were tried, so the total stays within its type.
use Rattle.std.proofs.Common.{◌+◌, ◌*◌, ◌≤◌}
use Rattle.show_tables.proofs.print_all.Given as goal

abbrev pub invariant-loop-low : goal.invariant-loop-low
invariant-loop-low g l = l.total ≤ 2 * l.low

abbrev pub invariant-loop-word : goal.invariant-loop-word
invariant-loop-word g l = l.total ≤ 2 * l.low + l.word-index
