-- The lines that lab has besides the console's: "X, L, V and `?` lines are no calls".
-- Assumes nothing.
use Rattle.std.specs.Prelude.{ℕ, ◌≡◌, Bool, ◌&&◌, ◌||◌, cond, List, eqb, length, get_or, Option, Some, None}
use Rattle.blocks.specs.declared.Store.TheVariants.{Priority, Ordinary}
use Rattle.orders.specs.declared.Table.TheVariants.{Five, Six, Seven}
use Rattle.items.specs.Characters.{question}
use Rattle.items.specs.Printed.{bare_line}
use Rattle.rules.specs.declared.Pod.{Pod}
use Rattle.rules.specs.State.{Lent}
use Rattle.line_calls.specs.declared.Sizes.{Sizes}
use Rattle.line_calls.specs.declared.Memory.{Memory}
use Rattle.line_calls.specs.Memory.{memory, lent_in, lent_at, right_sizes}
use Rattle.lab_sets.specs.declared.Thing.{Thing}
use Rattle.lab_sets.specs.declared.Thing.TheVariants.{Room, Store as store, Table as table}
use Rattle.lab_sets.specs.declared.Change.{Change}
use Rattle.lab_sets.specs.declared.Change.TheVariants.{Cell, Value, Exchange, Address, Transfer, Thing as thing}
use Rattle.lab_sets.specs.Setting.{part_after, load_after}
use Rattle.lab_lines.specs.Asked.{change_in}
use Rattle.items.specs.declared.output.Output.{Output}
use Rattle.items.specs.Output.{Written}
use Rattle.lab_shows.specs.Shown.{letter_v, shown_text}

-- `X`
abbrev pub letter_x : ℕ
letter_x = 88

-- `L`
abbrev pub letter_l : ℕ
letter_l = 76

-- the line `V`
unfoldable pub is_show : List ℕ → Bool
is_show t = eqb (length t) 1 && eqb (get_or t 0 0) letter_v

-- a line of its own
unfoldable pub is_own : List ℕ → Bool
is_own t = (eqb (get_or t 0 0) letter_x || eqb (get_or t 0 0) letter_l) || is_show t

-- "the next call is lent that thing at that size": a thing at another size
abbrev pub size_set : Thing → ℕ → Sizes → Sizes
size_set Room n s = record { room = n; priority = s.priority; ordinary = s.ordinary; five = s.five; six = s.six; seven = s.seven }
size_set (store Priority) n s = record { room = s.room; priority = n; ordinary = s.ordinary; five = s.five; six = s.six; seven = s.seven }
size_set (store Ordinary) n s = record { room = s.room; priority = s.priority; ordinary = n; five = s.five; six = s.six; seven = s.seven }
size_set (table Five) n s = record { room = s.room; priority = s.priority; ordinary = s.ordinary; five = n; six = s.six; seven = s.seven }
size_set (table Six) n s = record { room = s.room; priority = s.priority; ordinary = s.ordinary; five = s.five; six = n; seven = s.seven }
size_set (table Seven) n s = record { room = s.room; priority = s.priority; ordinary = s.ordinary; five = s.five; six = s.six; seven = n }

unfoldable pub sizes_set : Option Change → Sizes → Sizes
sizes_set None s = s
sizes_set (Some (Cell c n)) s = s
sizes_set (Some (Value id v)) s = s
sizes_set (Some (Exchange x)) s = s
sizes_set (Some (Address g)) s = s
sizes_set (Some (Transfer t)) s = s
sizes_set (Some (thing t n)) s = size_set t n s

-- "prints `?` and sets nothing", `X` or `L`
unfoldable pub letter_of : Option Change → ℕ
letter_of None = question
letter_of (Some (Cell c n)) = letter_x
letter_of (Some (Value id v)) = letter_x
letter_of (Some (Exchange x)) = letter_x
letter_of (Some (Address g)) = letter_x
letter_of (Some (Transfer t)) = letter_x
letter_of (Some (thing t n)) = letter_l

-- what a line of its own leaves: the pod, the sizes, the words of a load, and the text that it prints
pub record Leaves : Type 0 where
  pub pod : Pod
  pub sizes : Sizes
  pub load : List ℕ
  pub text : List ℕ

abbrev pub leaves : Pod → Sizes → List ℕ → List ℕ → Leaves
leaves p s l t = record { pod = p; sizes = s; load = l; text = t }

abbrev pub asks : Option Change → Pod → Sizes → Lent → Leaves
asks c p s l = leaves (part_after c p) (sizes_set c s) (load_after c l.load) (bare_line (letter_of c))

abbrev pub shows : Pod → Sizes → Lent → Leaves
shows p s l = leaves p s l.load (shown_text p l)

unfoldable pub own_of : List ℕ → Pod → Sizes → Lent → Leaves
own_of t p s l = cond (is_show t) (shows p s l) (asks (change_in t) p s l)

-- "`V` shows the memory at its right sizes"
abbrev pub shown_in : Memory → Lent
shown_in m = lent_in (lent_at right_sizes m)

-- the memory with other words of a load
abbrev pub with_load : List ℕ → Memory → Memory
with_load l m = memory m.room m.priority m.ordinary m.five m.six m.seven l

-- and so a line of its own is answered, of the memory only the words of a load may change; no line is longer than 1,200 characters
pub record OwnAnswered (t : List ℕ) (p p' : Pod) (s s' : Sizes) (m m' : Memory) (o o' : Output) : Type 0 where
  pub pod : p' ≡ (own_of t p s (shown_in m)).pod
  pub sizes : s' ≡ (own_of t p s (shown_in m)).sizes
  pub load : m'.load ≡ (own_of t p s (shown_in m)).load
  pub rest : m' ≡ with_load m'.load m
  pub printed : Written (own_of t p s (shown_in m)).text 1200 o o'
