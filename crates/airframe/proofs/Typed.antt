-- What the types of the code hold: what fits is held, and what is held has its widths.
-- Assumes nothing.
use Prim.Native.Nat.{ℕ, ◌-◌, ◌^◌, ◌<◌}
use native.Mathlib.Omega.{arith}
use mathlib.Core.Path.{◌≡◌, refl}
use mathlib.Core.Bool.{Bool, true, false, ◌&&◌}
use borrow.Author.Tests.{ltb-true, lt-ltb, le-leb}
use lib.Dec.{ltb}
use lib.IntN.{ℤ, pos, negsuc}
use lib.Signed.{mag}
use Rattle.rows.proofs.Bool.{split, never, and_left, and_right, and_both}
use Rattle.params.specs.Rows.{param_row}
use Rattle.params.specs.Rules.{is_id, in_row}
use Rattle.params.proofs.Laws.{id_within}
use Rattle.params.proofs.Narrow.{row_small}
use Rattle.packets.specs.declared.Fields.{Fields}
use Rattle.packets.specs.declared.Command.{Command}
use Rattle.packets.specs.declared.Command.TheVariants.{Initialise, Status, Update, Write, Read, Priority, Data, Shutdown}
use Rattle.packets.specs.Commands.{fields_bounded}
use Rattle.packets.proofs.Laws.{bounded_within}
use Rattle.airframe.specs.Building.{fields_fit, command_fits, fields_wide, command_wide}
use Rattle.airframe.specs.Given.{fields_typed, value_typed, command_typed}

-- each of nine numbers that fit
pub record Each (f : Fields) : Type 0 where
  pub mode : f.mode < 2 ^ 8
  pub flags : f.flags < 2 ^ 16
  pub seconds : f.seconds < 2 ^ 32
  pub milliseconds : f.milliseconds < 2 ^ 16
  pub prioritylimit : f.prioritylimit < 2 ^ 16
  pub priorityremaining : f.priorityremaining < 2 ^ 16
  pub memorylimit : f.memorylimit < 2 ^ 32
  pub memoryremaining : f.memoryremaining < 2 ^ 32
  pub poll : f.poll < 2 ^ 16

test-first : (n m : ℕ) (rest : Bool) → (ltb n m && rest) ≡ true → (n < m) × (rest ≡ true)
test-first n m rest h = (ltb-true n m (and_left (ltb n m) rest h), and_right (ltb n m) rest h)

pub typed_each : (f : Fields) → fields_typed f ≡ true → Each f
typed_each f h =
    let rest8 = ltb f.poll (2 ^ 16) in
    let rest7 = ltb f.memoryremaining (2 ^ 32) && rest8 in
    let rest6 = ltb f.memorylimit (2 ^ 32) && rest7 in
    let rest5 = ltb f.priorityremaining (2 ^ 16) && rest6 in
    let rest4 = ltb f.prioritylimit (2 ^ 16) && rest5 in
    let rest3 = ltb f.milliseconds (2 ^ 16) && rest4 in
    let rest2 = ltb f.seconds (2 ^ 32) && rest3 in
    let rest1 = ltb f.flags (2 ^ 16) && rest2 in
    let a = test-first f.mode (2 ^ 8) rest1 h in
    let b = test-first f.flags (2 ^ 16) rest2 a.1 in
    let c = test-first f.seconds (2 ^ 32) rest3 b.1 in
    let d = test-first f.milliseconds (2 ^ 16) rest4 c.1 in
    let e = test-first f.prioritylimit (2 ^ 16) rest5 d.1 in
    let g = test-first f.priorityremaining (2 ^ 16) rest6 e.1 in
    let i = test-first f.memorylimit (2 ^ 32) rest7 g.1 in
    let j = test-first f.memoryremaining (2 ^ 32) rest8 i.1 in
    record {
      mode = a.0;
      flags = b.0;
      seconds = c.0;
      milliseconds = d.0;
      prioritylimit = e.0;
      priorityremaining = g.0;
      memorylimit = i.0;
      memoryremaining = j.0;
      poll = ltb-true f.poll (2 ^ 16) j.1;
    }

-- ---- what fits is held by its types

fields_typed_lem : (f : Fields) → fields_wide f ≡ true → fields_fit f ≡ true → fields_typed f ≡ true
unfolding fields_wide fields_fit
fields_typed_lem f k h =
    let a = ltb f.flags (2 ^ 16) in
    let b = ltb f.prioritylimit (2 ^ 16) in
    let c = ltb f.memorylimit (2 ^ 32) in
    let w = bounded_within f (and_left (fields_bounded f) (ltb f.seconds (2 ^ 22)) h) in
    let seconds = ltb-true f.seconds (2 ^ 22) (and_right (fields_bounded f) (ltb f.seconds (2 ^ 22)) h) in
    let flags = ltb-true f.flags (2 ^ 16) (and_left a (b && c) k) in
    let priority = ltb-true f.prioritylimit (2 ^ 16) (and_left b c (and_right a (b && c) k)) in
    let memory = ltb-true f.memorylimit (2 ^ 32) (and_right b c (and_right a (b && c) k)) in
    simp (
      lt-ltb f.mode (2 ^ 8) (omega arith),
      lt-ltb f.flags (2 ^ 16) flags,
      lt-ltb f.seconds (2 ^ 32) (omega arith),
      lt-ltb f.milliseconds (2 ^ 16) (omega arith),
      lt-ltb f.prioritylimit (2 ^ 16) priority,
      lt-ltb f.priorityremaining (2 ^ 16) (omega arith),
      lt-ltb f.memorylimit (2 ^ 32) memory,
      lt-ltb f.memoryremaining (2 ^ 32) (omega arith),
      lt-ltb f.poll (2 ^ 16) (omega arith),
    )

value_typed_lem : (v : ℤ) → mag v < 2 ^ 31 → value_typed v ≡ true
value_typed_lem (pos n) h = lt-ltb n (2 ^ 31) h
value_typed_lem (negsuc n) h = and_both (le-leb n (2 ^ 31 - 1) (omega arith)) refl

fit_typed : (c : Command) → command_wide c ≡ true → command_fits c ≡ true → command_typed c ≡ true
unfolding command_fits command_typed
fit_typed (Initialise f) w h = fields_typed_lem f w h
fit_typed Status w h = refl
fit_typed (Update f) w h = fields_typed_lem f w h
fit_typed (Write id v) w h =
    and_both (lt-ltb id (2 ^ 8) (omega (arith, (id_within id (and_left (is_id id) (in_row (param_row id) v) h)).1)))
    (value_typed_lem v (row_small id v (and_right (is_id id) (in_row (param_row id) v) h)))
fit_typed (Read id) w h = lt-ltb id (2 ^ 8) (omega (arith, (id_within id h).1))
fit_typed Priority w h = refl
fit_typed Data w h = refl
fit_typed Shutdown w h = refl

-- "a decimal number too large for its field's type is 20"
pub outside : (c : Command) → command_typed c ≡ false → (command_wide c && command_fits c) ≡ false
outside c n =
    split (command_wide c && command_fits c)
    (λ t. never (fit_typed c (and_left (command_wide c) (command_fits c) t) (and_right (command_wide c) (command_fits c) t)) n)
    (λ f. f)

-- and what its types hold has its widths
three : (a l c d p e m g : Bool) → (a && (l && (c && (d && (p && (e && (m && g))))))) ≡ true → (l && (p && m)) ≡ true
three a l c d p e m g h =
    let fifth = p && (e && (m && g)) in
    let second = and_right a (l && (c && (d && fifth))) h in
    let rest = and_right d fifth (and_right c (d && fifth) (and_right l (c && (d && fifth)) second)) in
    and_both (and_left l (c && (d && fifth)) second)
    (and_both (and_left p (e && (m && g)) rest) (and_left m g (and_right e (m && g) (and_right p (e && (m && g)) rest))))

fields_wide_lem : (f : Fields) → fields_typed f ≡ true → fields_wide f ≡ true
unfolding fields_wide
fields_wide_lem f h =
    three (ltb f.mode (2 ^ 8)) (ltb f.flags (2 ^ 16)) (ltb f.seconds (2 ^ 32)) (ltb f.milliseconds (2 ^ 16))
    (ltb f.prioritylimit (2 ^ 16)) (ltb f.priorityremaining (2 ^ 16)) (ltb f.memorylimit (2 ^ 32))
    (ltb f.memoryremaining (2 ^ 32) && ltb f.poll (2 ^ 16)) h

pub typed_wide : (c : Command) → command_typed c ≡ true → command_wide c ≡ true
unfolding command_typed
typed_wide (Initialise f) h = fields_wide_lem f h
typed_wide Status h = refl
typed_wide (Update f) h = fields_wide_lem f h
typed_wide (Write id v) h = refl
typed_wide (Read id) h = refl
typed_wide Priority h = refl
typed_wide Data h = refl
typed_wide Shutdown h = refl
