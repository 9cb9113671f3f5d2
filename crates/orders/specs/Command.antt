-- The command word: its parts, and what it asks for.
use Rattle.std.specs.Prelude.{ℕ, ◌/◌, ◌%◌, ◌^◌, Bool, not, ◌&&◌, cond, Option, Some, None, option_map, List, [], ◌∷◌, leb, eqb}
use Rattle.std.specs.Int.Count.{ones}
use Rattle.orders.specs.declared.Table.{Table}
use Rattle.orders.specs.declared.Table.TheVariants.{Five, Six, Seven}
use Rattle.orders.specs.declared.Parts.{Parts}
use Rattle.orders.specs.declared.Order.{Order}
use Rattle.orders.specs.declared.Order.TheVariants.{Stop, Restart, Next, Writing, Reading}

-- a table's number is the command that loads and reads it
abbrev pub table_number : Table → ℕ
table_number Five = 5
table_number Six = 6
table_number Seven = 7

-- the count of ones is odd
unfoldable pub odd_ones : ℕ → Bool
odd_ones w = eqb (ones w % 2) 1

-- bit 15 parity, bit 14 direction (1 is read), bits 13 to 9 command, bits 8 to 0 length N
unfoldable pub parts_of : ℕ → Parts
parts_of w =
    record {
      odd = odd_ones w;
      reads = eqb (w / 2 ^ 14 % 2) 1;
      command = w / 2 ^ 9 % 2 ^ 5;
      n = w % 2 ^ 9;
    }

-- a command writing, with its N
abbrev pub writes : Parts → ℕ → ℕ → Bool
writes p c n = not p.reads && (eqb p.command c && eqb p.n n)

-- N 4 to 64
abbrev pub length_allowed : ℕ → Bool
length_allowed n = leb 4 n && leb n 64

-- a table writing or reading
abbrev pub transfer_asked : Table → Parts → Order
transfer_asked t p = cond p.reads (Reading t p.n) (Writing t p.n)

-- the table of that number, if there is one
abbrev pub table_numbered : ℕ → Option Table
table_numbered c = cond (eqb c 5) (Some Five) (cond (eqb c 6) (Some Six) (cond (eqb c 7) (Some Seven) None))

-- 5, 6, 7 writing or reading
abbrev pub table_asked : Parts → Option Order
table_asked p = option_map (λ (t : Table). transfer_asked t p) (table_numbered p.command)

-- accepted: the count of ones is odd, and command 0 writing, N 0 or 1; 1 writing, N 1; 5, 6, 7 writing or reading, N 4 to 64
unfoldable pub order_of : Parts → Option Order
order_of p =
    cond (not p.odd) None
    (cond (writes p 0 0) (Some Stop)
    (cond (writes p 0 1) (Some Restart)
    (cond (writes p 1 1) (Some Next)
    (cond (length_allowed p.n) (table_asked p)
    None))))

-- any while not initialised is not accepted
unfoldable pub order_heard : Bool → ℕ → Option Order
order_heard on w = cond on (order_of (parts_of w)) None

-- an order in document 01's numbers: the direction (1 is read), the command and N
abbrev pub order_numbers : Order → List ℕ
order_numbers Stop = 0 ∷ 0 ∷ 0 ∷ []
order_numbers Restart = 0 ∷ 0 ∷ 1 ∷ []
order_numbers Next = 0 ∷ 1 ∷ 1 ∷ []
order_numbers (Writing t n) = 0 ∷ table_number t ∷ n ∷ []
order_numbers (Reading t n) = 1 ∷ table_number t ∷ n ∷ []

-- none where it is not accepted
unfoldable pub order_said : Option Order → List ℕ
order_said None = []
order_said (Some o) = order_numbers o
