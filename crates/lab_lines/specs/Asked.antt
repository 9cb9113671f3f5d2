-- What a line of X or L asks for: a name, and numbers in the range of what it names.
-- Assumes nothing.
use Rattle.std.specs.Prelude.{ℕ, ◌+◌, ◌^◌, not, ◌&&◌, cond, List, ltb, leb, eqb, pos, neg_ℤ, take, drop, get_or, Option, Some, None, option_map, option_and_then}
use Rattle.scans.specs.Scans.{index_of}
use Rattle.items.specs.Characters.{space}
use Rattle.blocks.specs.declared.Store.TheVariants.{Priority, Ordinary}
use Rattle.orders.specs.declared.Table.{Table}
use Rattle.orders.specs.declared.Table.TheVariants.{Five, Six, Seven}
use Rattle.tables.specs.declared.Transfer.TheVariants.{Idle, Address as waits, Load, Read}
use Rattle.tables.specs.Port.{header}
use Rattle.rules.specs.declared.Exchange.TheVariants.{Closed, Status, Read as reading, Receive}
use Rattle.lab_sets.specs.declared.Cell.{Cell}
use Rattle.lab_sets.specs.declared.Thing.{Thing}
use Rattle.lab_names.specs.declared.Part.{Part}
use Rattle.lab_names.specs.declared.Part.TheVariants.{Cell as a_cell, Value as a_value, Exchange as an_exchange, Address as an_address, Transfer as a_transfer, Thing as a_thing}
use Rattle.decimals.specs.declared.Number.{Number}
use Rattle.decimals.specs.declared.Numbers.{Numbers}
use Rattle.lab_sets.specs.declared.Change.{Change}
use Rattle.lab_sets.specs.declared.Change.TheVariants.{Cell as cell, Value, Exchange, Address, Transfer, Thing as thing}
use Rattle.lab_names.specs.Names.{part_named}
use Rattle.decimals.specs.Reading.{is_below, numbers_in, numbers_read}
use Rattle.lab_sets.specs.Ranges.{most, cell_most}
use Rattle.lab_lines.specs.Ranges.{within, minus_one, right_size}

-- a number from 0 to its most
unfoldable pub cell_asked : Cell → Number → Option Change
cell_asked c n = option_map (cell c) (within (cell_most c) n)

-- "parameters 32 bits signed"
unfoldable pub value_asked : ℕ → Number → Option Change
value_asked id n =
    cond (is_below n && leb n.size (2 ^ 31)) (Some (Value id (neg_ℤ (pos n.size))))
    (cond (not (is_below n) && ltb n.size (2 ^ 31)) (Some (Value id (pos n.size)))
    None)

-- "`exchange` -1 or 145, 148, 149, 150"
unfoldable pub exchange_of : ℕ → Option Change
exchange_of code =
    cond (eqb code 145) (Some (Exchange Status))
    (cond (eqb code 148) (Some (Exchange reading))
    (cond (eqb code 149) (Some (Exchange (Receive Priority)))
    (cond (eqb code 150) (Some (Exchange (Receive Ordinary)))
    None)))

unfoldable pub exchange_asked : Number → Option Change
exchange_asked n = cond (minus_one n) (Some (Exchange Closed)) (cond (is_below n) None (exchange_of n.size))

-- "`address` -1 or the given address"
unfoldable pub address_asked : Number → Option Change
address_asked n = cond (minus_one n) (Some (Address None)) (option_map (λ a. Address (Some a)) (within (most 16) n))

-- a load, "its start 0", or a read
unfoldable pub moving : Table → ℕ → ℕ → ℕ → ℕ → Option Change
moving t reads n k start =
    cond (eqb reads 0 && eqb start 0) (Some (Transfer (Load (header t n) k)))
    (cond (eqb reads 1) (Some (Transfer (Read (header t n) k start)))
    None)

-- "`transfer` command reading N along start (1 0 1 0 0 waits for an address)"
unfoldable pub transfer_of : ℕ → ℕ → ℕ → ℕ → ℕ → Option Change
transfer_of c reads n k start =
    cond (eqb c 1 && (eqb reads 0 && (eqb n 1 && (eqb k 0 && eqb start 0)))) (Some (Transfer waits))
    (cond (eqb c 5) (moving Five reads n k start)
    (cond (eqb c 6) (moving Six reads n k start)
    (cond (eqb c 7) (moving Seven reads n k start)
    None)))

-- the number at a place
abbrev pub number_at : List (Option Number) → ℕ → Option Number
number_at l i = get_or l i None

-- "a transfer's numbers 0 to 255"
abbrev pub byte_at : List (Option Number) → ℕ → Option ℕ
byte_at l i = option_and_then (within 255) (number_at l i)

unfoldable pub five_asked : List (Option Number) → Option Change
five_asked l =
    option_and_then (λ c.
    option_and_then (λ reads.
    option_and_then (λ n.
    option_and_then (λ k.
    option_and_then (λ start. transfer_of c reads n k start) (byte_at l 4)) (byte_at l 3)) (byte_at l 2)) (byte_at l 1)) (byte_at l 0)

-- the one number of a line; none where it has more or fewer
abbrev pub only : Numbers → Option Number
only ns = cond (eqb ns.count 1) (number_at ns.list 0) None

-- "`transfer` -1", or five numbers
unfoldable pub transfer_asked : Numbers → Option Change
transfer_asked ns =
    cond (eqb ns.count 5) (five_asked ns.list)
    (option_and_then (λ n. cond (minus_one n) (Some (Transfer Idle)) None) (only ns))

-- "up to 1,024 over the right size (a larger one prints `?`)"
unfoldable pub thing_asked : Thing → Number → Option Change
thing_asked t n = option_map (thing t) (within (right_size t + 1024) n)

unfoldable pub asked_of : Part → Numbers → Option Change
asked_of (a_cell c) ns = option_and_then (cell_asked c) (only ns)
asked_of (a_value id) ns = option_and_then (value_asked id) (only ns)
asked_of an_exchange ns = option_and_then exchange_asked (only ns)
asked_of an_address ns = option_and_then address_asked (only ns)
asked_of a_transfer ns = transfer_asked ns
asked_of (a_thing t) ns = option_and_then (thing_asked t) (only ns)

-- where the name ends: at the next space behind the letter and its space
abbrev pub name_end : List ℕ → ℕ
name_end t = 2 + index_of space (drop 2 t)

-- "`X` name number ..", "`L` name size"
unfoldable pub change_in : List ℕ → Option Change
change_in t =
    option_and_then (λ p. asked_of p (numbers_read (numbers_in (drop (name_end t) t)))) (part_named (take (name_end t) t))
