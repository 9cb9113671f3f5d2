-- `parsed_said` is one-to-one: what a packet is taken as can be told from its numbers.
use Prim.Native.Nat.{ℕ}
use mathlib.Core.Path.{◌≡◌, refl, sym, ap, ◌∙◌}
use mathlib.Core.List.{List}
use mathlib.Core.Bool.{true, false, cond}
use lib.Dec.{eqb}
use lib.IntN.{ℤ, pos, negsuc}
use lib.ListN.{length, get_or}
use Rattle.packets.specs.declared.Fields.{Fields}
use Rattle.packets.specs.declared.Command.{Command}
use Rattle.packets.specs.declared.Command.TheVariants.{Initialise, Status, Update, Write, Read, Priority, Data, Shutdown}
use Rattle.packets.specs.declared.Parsed.{Parsed}
use Rattle.packets.specs.declared.Parsed.TheVariants.{Nothing, Error, Acknowledgement, Asked}
use Rattle.packets.specs.Commands.{command_place, command_row, field_values, values_of, parsed_said}

abbrev plain : ℤ → ℕ
plain (pos n) = n
plain (negsuc n) = 0

-- the number at a place of what was said
unfoldable at : List ℤ → ℕ → ℕ
at l k = plain (get_or l k (pos 0))

unfoldable fields : List ℤ → Fields
fields l =
    record {
      mode = at l 3;
      flags = at l 4;
      seconds = at l 5;
      milliseconds = at l 6;
      prioritylimit = at l 7;
      priorityremaining = at l 8;
      memorylimit = at l 9;
      memoryremaining = at l 10;
      poll = at l 11;
    }

unfoldable command : List ℤ → Command
command l =
    cond (eqb (at l 1) 0x90) (Initialise (fields l))
    (cond (eqb (at l 1) 0x91) Status
    (cond (eqb (at l 1) 0x92) (Update (fields l))
    (cond (eqb (at l 1) 0x93) (Write (at l 3) (get_or l 4 (pos 0)))
    (cond (eqb (at l 1) 0x94) (Read (at l 3))
    (cond (eqb (at l 1) 0x95) Priority
    (cond (eqb (at l 1) 0x96) Data Shutdown))))))

-- what was said, taken back: no answer and nothing more, no answer, an error, a command
unfoldable parsed : List ℤ → Parsed
parsed l =
    cond (eqb (at l 0) 0)
    (cond (eqb (length l) 1) Nothing (Acknowledgement (at l 1) (eqb (at l 2) 0x01)))
    (cond (eqb (at l 2) 0x09) (Error (at l 1) (at l 3)) (Asked (command l)))

back : (p : Parsed) → parsed (parsed_said p) ≡ p
unfolding parsed command fields at parsed_said command_row command_place values_of field_values
back Nothing = refl
back (Error first number) = refl
back (Acknowledgement first true) = refl
back (Acknowledgement first false) = refl
back (Asked (Initialise f)) = refl
back (Asked Status) = refl
back (Asked (Update f)) = refl
back (Asked (Write id v)) = refl
back (Asked (Read id)) = refl
back (Asked Priority) = refl
back (Asked Data) = refl
back (Asked Shutdown) = refl

pub one_to_one : (p q : Parsed) → parsed_said p ≡ parsed_said q → p ≡ q
one_to_one p q e = sym (back p) ∙ ap parsed e ∙ back q
