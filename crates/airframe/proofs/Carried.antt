-- What is built is read by the pod as the same: every command.
-- Assumes nothing.
use Prim.Native.Nat.{ℕ, ◌^◌, ◌≤◌}
use native.Mathlib.Omega.{arith}
use mathlib.Core.Path.{◌≡◌, sym, ap, ◌∙◌}
use mathlib.Core.Bool.{Bool, true, ◌&&◌}
use mathlib.Core.List.{List, [], ◌∷◌}
use borrow.Author.Tests.{ltb-true, ltb-false}
use lib.Dec.{ltb}
use lib.ListN.{length, take}
use lib.Seq.{sets}
use Rattle.numbers.proofs.Stores.{sets_taken}
use Rattle.rows.specs.Rows.{Said, gave, Out, out}
use Rattle.rows.proofs.Bool.{and_left, and_right, not-false}
use Rattle.rows.proofs.Laws.{ran-case, gave_not, clear_head, clear_rest}
use Rattle.params.specs.Rows.{param_row}
use Rattle.params.specs.Rules.{is_id, in_row}
use Rattle.params.proofs.Laws.{id_within}
use Rattle.params.proofs.Narrow.{row_small}
use Rattle.packets.specs.declared.Fields.{Fields}
use Rattle.packets.specs.declared.Command.{Command}
use Rattle.packets.specs.declared.Command.TheVariants.{Initialise, Status, Update, Write, Read, Priority, Data, Shutdown}
use Rattle.packets.specs.Commands.{fields_bounded, command_place, command_row}
use Rattle.packets.specs.Reading.{packet_read}
use Rattle.packets.specs.Answers.{command_bytes}
use Rattle.packets.proofs.Sendable.{FieldsFit, Sendable}
use Rattle.packets.proofs.Sent.{sent}
use Rattle.packets.proofs.Laws.{bytes-listed, bounded_within}
use Rattle.airframe.specs.Building.{fields_fit, command_fits, fields_wide, command_wide, field_row, room_row, build_of, command_built}
use Rattle.airframe.specs.Statements.{BuiltIsRead, CommandsApart}

-- ---- what is built stands whole at the start of the room

pub built : (inside : Bool) (bytes room : List ℕ) (n : ℕ) → length bytes ≤ 25 → (build_of inside bytes room).said ≡ gave n
    → (inside ≡ true) × (take n (build_of inside bytes room).lent ≡ bytes)
unfolding build_of
built inside bytes room n few =
    ran-case (λ (o : Out (Said ℕ) (Unit {0}) (List ℕ)). o.said ≡ gave n → (inside ≡ true) × (take n o.lent ≡ bytes))
    (field_row inside ∷ room_row room ∷ []) {e = out (length bytes) tt (sets room 0 bytes)}
    (λ m f e. absurd (gave_not (sym e)))
    (λ k e.
    let enough = ltb-false (length room) 25 (clear_head (clear_rest k)) in
    (not-false (clear_head k), sets_taken bytes room n (cc) (omega arith)))

-- ---- commands

-- a command within its bounds and its widths is one that its bytes can carry
fields_sendable : (f : Fields) → fields_fit f ≡ true → fields_wide f ≡ true → FieldsFit f
unfolding fields_fit fields_wide
fields_sendable f h k =
    let a = ltb f.flags (2 ^ 16) in
    let b = ltb f.prioritylimit (2 ^ 16) in
    let c = ltb f.memorylimit (2 ^ 32) in
    let w = bounded_within f (and_left (fields_bounded f) (ltb f.seconds (2 ^ 22)) h) in
    let seconds = ltb-true f.seconds (2 ^ 22) (and_right (fields_bounded f) (ltb f.seconds (2 ^ 22)) h) in
    let flags = ltb-true f.flags (2 ^ 16) (and_left a (b && c) k) in
    let priority = ltb-true f.prioritylimit (2 ^ 16) (and_left b c (and_right a (b && c) k)) in
    let memory = ltb-true f.memorylimit (2 ^ 32) (and_right b c (and_right a (b && c) k)) in
    record { each = omega arith; milliseconds = omega arith }

sendable : (c : Command) → command_wide c ≡ true → command_fits c ≡ true → Sendable c
unfolding command_fits
sendable (Initialise f) w h = fields_sendable f h w
sendable Status w h = tt
sendable (Update f) w h = fields_sendable f h w
sendable (Write id v) w h = row_small id v (and_right (is_id id) (in_row (param_row id) v) h)
sendable (Read id) w h = λ e. omega (arith, (id_within id h).1)
sendable Priority w h = tt
sendable Data w h = tt
sendable Shutdown w h = tt

-- no command is longer than the room
row-bytes : (c : Command) → (command_row c).bytes ≤ 25
unfolding command_row command_place
row-bytes (Initialise f) = omega arith
row-bytes Status = omega arith
row-bytes (Update f) = omega arith
row-bytes (Write id v) = omega arith
row-bytes (Read id) = omega arith
row-bytes Priority = omega arith
row-bytes Data = omega arith
row-bytes Shutdown = omega arith

pub few_bytes : (c : Command) → length (command_bytes c) ≤ 25
few_bytes c = rw bytes-listed (row-bytes c)

pub built_is_read : BuiltIsRead
unfolding command_built
built_is_read c room n wide said =
    let b = built (command_fits c) (command_bytes c) room n (few_bytes c) said in
    ap packet_read b.1 ∙ sent c (sendable c wide b.0)

pub commands_apart : CommandsApart
commands_apart c d wc wd fc fd e =
    let x = sent c (sendable c wc fc) in
    let y = sent d (sendable d wd fd) in
    let z = ap packet_read e in
    cc
