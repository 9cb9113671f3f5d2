-- No answer to a packet is longer than 260 bytes, so that the first 260 of the room say all.
-- Assumes nothing.
use Prim.Native.Nat.{ℕ, ◌≤◌}
use native.Mathlib.Omega.{arith}
use mathlib.Core.Path.{◌≡◌, refl, sym, ap, ◌∙◌}
use mathlib.Core.Bool.{true, not}
use mathlib.Core.List.{List, []}
use lib.ListN.{length, take}
use lib.Seq.{take-take}
use Rattle.rows.specs.Rows.{Said, refused, gave}
use Rattle.rows.proofs.Laws.{Gate, stops, opens, gate}
use Rattle.packets.specs.declared.Command.{Command}
use Rattle.packets.specs.declared.Command.TheVariants as command
use Rattle.packets.specs.declared.Parsed.{Parsed}
use Rattle.packets.specs.declared.Parsed.TheVariants.{Nothing, Error, Acknowledgement, Asked}
use Rattle.packets.specs.Commands.{command_row, command_place}
use Rattle.packets.specs.Reading.{packet_read}
use Rattle.packets.specs.Answers.{error_answer}
use Rattle.packets.proofs.Laws.{error_length}
use Rattle.rules.specs.declared.Pod.{Pod}
use Rattle.rules.specs.Refusals.{Giving, done, bytes, reads}
use Rattle.rules.specs.Obey.{checks_of}
use Rattle.rules.specs.World.{World, packet, Told, answering, step, is_refused}
use Rattle.rules.specs.Checks.{Answers}
use Rattle.rules.proofs.Checked.{packet_answered}
use Rattle.items.specs.Printed.{bytes_line}
use Rattle.lines.specs.Letters.{letter_p}
use Rattle.answers.specs.Answers.{plain, said_line}

row_short : (c : Command) → (command_row c).answer ≤ 260
unfolding command_row command_place
row_short (command.Initialise f) = omega arith
row_short command.Status = omega arith
row_short (command.Update f) = omega arith
row_short (command.Write id v) = omega arith
row_short (command.Read id) = omega arith
row_short command.Priority = omega arith
row_short command.Data = omega arith
row_short command.Shutdown = omega arith

-- an answer of these bytes has as many
told-length : (t : Told) (room answer : List ℕ) (n : ℕ) → t ≡ answering room answer → t.said ≡ gave (bytes n) → length answer ≡ n
told-length t room answer n e s =
    let same : gave (bytes (length answer)) ≡ gave (bytes n) = sym (ap (λ (x : Told). x.said) e) ∙ s in
    cc

error_short : (t : Told) (room : List ℕ) (first k n : ℕ) → t ≡ answering room (error_answer first k) → t.said ≡ gave (bytes n) → n ≤ 260
error_short t room first k n e s = omega (arith, told-length t room (error_answer first k) n e s, error_length first k)

answers_short : (q : Parsed) (p : Pod) (room : List ℕ) (t : Told) (n : ℕ) → Answers q p room t → t.said ≡ gave (bytes n) → n ≤ 260
answers_short Nothing p room t n a s = omega (arith, told-length t room [] n a s)
answers_short (Error first k) p room t n a s = error_short t room first k n a s
answers_short (Acknowledgement first one) p room t n a s = omega (arith, told-length t room [] n a s)
answers_short (Asked c) p room t n a s = on (gate (checks_of c p))
  where
    on : Gate (checks_of c p) → n ≤ 260
    on (stops k f) = error_short t room (command_row c).code k n (a.fails k f) s
    on (opens q) =
        let same : gave (bytes (command_row c).answer) ≡ gave (bytes n) = sym (a.succeeds q).count ∙ s in
        let long : (command_row c).answer ≡ n = cc in
        omega (arith, row_short c)

packet_short : (w : World) (b room : List ℕ) (n : ℕ) → (step w (packet b room)).told.said ≡ gave (bytes n) → n ≤ 260
packet_short w b room n e =
    let answered : not (is_refused (step w (packet b room)).told.said) ≡ true = rw e in
    answers_short (packet_read b) w.pod room (step w (packet b room)).told n (packet_answered w b room answered) e

-- so the line of a packet is that of the first 260 bytes of its room
said_short : (s : Said Giving) (room : List ℕ) → ((n : ℕ) → s ≡ gave (bytes n) → n ≤ 260)
    → said_line (plain letter_p) s (take 260 room) ≡ said_line (plain letter_p) s room
unfolding said_line
said_short (refused n) room h = refl
said_short (gave done) room h = refl
said_short (gave (bytes n)) room h = ap (bytes_line letter_p) (take-take n 260 room (h n refl))
said_short (gave (reads w)) room h = refl

pub packet_said : (w : World) (b room after : List ℕ) (s : Said Giving) → (step w (packet b room)).told.said ≡ s
    → said_line (plain letter_p) s (take 260 after) ≡ said_line (plain letter_p) s after
packet_said w b room after s e = said_short s after (λ n h. packet_short w b room n (e ∙ h))
