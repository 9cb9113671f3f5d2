-- No size is over that of the loop's arrays, whatever a line is.
-- Assumes nothing.
use Prim.Native.Nat.{ℕ, ◌+◌, ◌≤◌}
use native.Mathlib.Omega.{arith}
use mathlib.Core.Path.{◌≡◌, refl, sym, subst, ◌∙◌}
use mathlib.Core.List.{List, []}
use lib.ListN.{length}
use Rattle.std.proofs.Common.{Option, Some, None}
use borrow.Author.Tests.{leb-true}
use Rattle.rows.proofs.Bool.{by-test}
use Rattle.blocks.specs.declared.Store.TheVariants.{Priority, Ordinary}
use Rattle.orders.specs.declared.Table.TheVariants.{Five, Six, Seven}
use Rattle.rules.specs.declared.Pod.{Pod}
use Rattle.rules.specs.State.{Lent}
use Rattle.rules.specs.World.{Call}
use Rattle.lines.specs.declared.Line.{Line}
use Rattle.lines.specs.declared.Line.TheVariants.{Packet, Deadline, Put, Command, Data, Read, Status, Samples, Byte, Timeout, Out, Taken, Power}
use Rattle.lines.specs.Asked.{Asked, other}
use Rattle.line_calls.specs.declared.Sizes.{Sizes}
use Rattle.line_calls.specs.Calls.{heard, call_of}
use Rattle.line_calls.specs.Memory.{right_sizes, Within}
use Rattle.lab_sets.specs.declared.Thing.{Thing}
use Rattle.lab_sets.specs.declared.Thing.TheVariants.{Room, Store as store, Table as table}
use Rattle.lab_lines.specs.Ranges.{right_size}
use Rattle.lab_lines.specs.Asked.{change_in}
use Rattle.lab_lines.proofs.Inside.{asked_case}
use Rattle.lab_calls.specs.Own.{size_set, sizes_set, is_show, Leaves, own_of, shown_in}
use Rattle.line_answers.specs.declared.Bench.{Bench}
use Rattle.line_answers.specs.declared.Program.{Program}
use Rattle.line_answers.specs.Lines.{asking_of, sizes_if, sizes_after}
use Rattle.line_answers.specs.Turns.{TextAnswered, own, call, Ready}

-- a line that is a call
pub sizes_again : (l : Line) (s : Sizes) (bs ws : List ℕ) → sizes_after (heard l bs ws) s ≡ right_sizes
unfolding sizes_after heard call_of
sizes_again (Packet n) s bs ws = refl
sizes_again Deadline s bs ws = refl
sizes_again (Put x n) s bs ws = refl
sizes_again (Command w) s bs ws = refl
sizes_again (Data w) s bs ws = refl
sizes_again Read s bs ws = refl
sizes_again Status s bs ws = refl
sizes_again (Samples x n) s bs ws = refl
sizes_again (Byte b) s bs ws = refl
sizes_again Timeout s bs ws = refl
sizes_again (Out n) s bs ws = refl
sizes_again Taken s bs ws = refl
sizes_again Power s bs ws = refl

-- and a line that is none
pub sizes_stay : (s : Sizes) → sizes_after other s ≡ s
unfolding sizes_after call_of
sizes_stay s = refl

-- the right sizes are within the arrays
pub within_right : Within right_sizes
within_right =
    record { room = omega arith; priority = omega arith; ordinary = omega arith; five = omega arith; six = omega arith; seven = omega arith }

within_if : (c : Option Call) (s : Sizes) → Within s → Within (sizes_if c s)
within_if None s w = w
within_if (Some c) s w = within_right

within_after : (a : Asked) (s s' : Sizes) → s' ≡ sizes_after a s → Within s → Within s'
unfolding sizes_after
within_after a s s' e w = subst (λ (x : Sizes). Within x) (sym e) (within_if (call_of a []) s w)

within_thing : (t : Thing) (n : ℕ) (s : Sizes) → n ≤ right_size t + 1024 → Within s → Within (size_set t n s)
within_thing Room n s h w =
    record { room = h; priority = w.priority; ordinary = w.ordinary; five = w.five; six = w.six; seven = w.seven }
within_thing (store Priority) n s h w =
    record { room = w.room; priority = h; ordinary = w.ordinary; five = w.five; six = w.six; seven = w.seven }
within_thing (store Ordinary) n s h w =
    record { room = w.room; priority = w.priority; ordinary = h; five = w.five; six = w.six; seven = w.seven }
within_thing (table Five) n s h w =
    record { room = w.room; priority = w.priority; ordinary = w.ordinary; five = h; six = w.six; seven = w.seven }
within_thing (table Six) n s h w =
    record { room = w.room; priority = w.priority; ordinary = w.ordinary; five = w.five; six = h; seven = w.seven }
within_thing (table Seven) n s h w =
    record { room = w.room; priority = w.priority; ordinary = w.ordinary; five = w.five; six = w.six; seven = h }

within_set : (t : List ℕ) (s : Sizes) → Within s → Within (sizes_set (change_in t) s)
unfolding sizes_set
within_set t s w =
    asked_case (λ c. Within (sizes_set c s)) w (λ c n e. w) (λ id v. w) (λ x. w) (λ g. w) (λ t. w)
    (λ x n e. within_thing x n s (leb-true n (right_size x + 1024) e) w) t

within_own : (t : List ℕ) (p : Pod) (s : Sizes) (l : Lent) → Within s → Within (own_of t p s l).sizes
unfolding own_of
within_own t p s l w = by-test (λ (x : Leaves). Within x.sizes) (is_show t) (λ _. w) (λ _. within_set t s w)

-- whatever a text is, no size is over that of the arrays
pub within_answered : {p : Program} {t : List ℕ} {b b' : Bench} → TextAnswered p t b b' → Within b.sizes → Within b'.sizes
within_answered {p} {t} {b} {b'} (own e a) w =
    subst (λ (x : Sizes). Within x) (sym a.answered.sizes) (within_own t b.pod b.sizes (shown_in b.memory) w)
within_answered {p} {t} {b} {b'} (call e a) w = within_after (asking_of p t).asked b.sizes b'.sizes a.sizes w

-- and the output stays as long
room_answered : {p : Program} {t : List ℕ} {b b' : Bench} → TextAnswered p t b b' → length b'.out.out.now ≡ length b.out.out.now
room_answered (own e a) = a.answered.printed.room
room_answered (call e a) = a.answered.answered.printed.room

pub ready_answered : {p : Program} {t : List ℕ} {b b' : Bench} → TextAnswered p t b b' → Ready b → Ready b'
ready_answered a r = record { within = within_answered a r.within; room = room_answered a ∙ r.room }
