-- What a packet is answered: whole, by what it is read as and by the first check that fails.
-- Assumes nothing.
use Rattle.std.specs.Prelude.{ℕ, ◌≡◌, Bool, true, not, ◌&&◌, ◌||◌, List, [], ◌∷◌, eqb, ltb, length, take, drop}
use Rattle.rows.specs.Rows.{First, Clear, gave}
use Rattle.packets.specs.declared.Command.{Command}
use Rattle.packets.specs.declared.Parsed.{Parsed}
use Rattle.packets.specs.declared.Parsed.TheVariants.{Nothing, Error, Acknowledgement, Asked}
use Rattle.packets.specs.Commands.{command_row}
use Rattle.packets.specs.Reading.{crc_right}
use Rattle.packets.specs.Answers.{error_answer, answer_of}
use Rattle.rules.specs.declared.Pod.{Pod}
use Rattle.rules.specs.Refusals.{bytes}
use Rattle.rules.specs.Obey.{checks_of}
use Rattle.rules.specs.World.{Told, answering}

-- a command answered without error
pub record Succeeds (c : Command) (room : List ℕ) (t : Told) : Type 0 where
  -- as many bytes as the packet table has
  pub count : t.said ≡ gave (bytes (command_row c).answer)
  -- "first byte, 0x01, .. CRC"
  pub start : take 2 t.bytes ≡ (command_row c).code ∷ 0x01 ∷ []
  pub crc : crc_right (take (command_row c).answer t.bytes) ≡ true
  -- "the rest of the room is kept"
  pub rest : drop (command_row c).answer t.bytes ≡ drop (command_row c).answer room
  -- "Success of a type 1 command: first byte, 0x01, 0x7E, CRC": whole
  pub whole : (command_row c).kind ≡ 1 → t ≡ answering room (answer_of (command_row c).code 0x01 (0x7E ∷ []))

-- a command: "the error" of the first check that fails, or success where none does
pub record AnswersCommand (c : Command) (p : Pod) (room : List ℕ) (t : Told) : Type 0 where
  pub fails : (n : ℕ) → First n (checks_of c p) → t ≡ answering room (error_answer (command_row c).code n)
  pub succeeds : Clear (checks_of c p) → Succeeds c room t

-- "Empty packet: answer of length 0"; an error of checks 2 to 6; an acknowledgement "gets no answer"; a command by checks 7 to 9
abbrev pub Answers : Parsed → Pod → List ℕ → Told → Type 0
Answers Nothing p room t = t ≡ answering room []
Answers (Error first n) p room t = t ≡ answering room (error_answer first n)
Answers (Acknowledgement first one) p room t = t ≡ answering room []
Answers (Asked c) p room t = AnswersCommand c p room t

-- a packet that is damaged: under 4 bytes or its CRC wrong
abbrev pub damaged : List ℕ → Bool
damaged b = not (eqb (length b) 0) && (ltb (length b) 4 || not (crc_right b))
