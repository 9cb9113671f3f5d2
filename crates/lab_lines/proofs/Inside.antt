-- What a line asks for, case by case: a cell and a thing come with their ranges.
-- Assumes nothing.
use Prim.Native.Nat.{ℕ, ◌+◌, ◌^◌}
use mathlib.Core.Path.{◌≡◌, refl}
use mathlib.Core.Bool.{true, not, ◌&&◌}
use mathlib.Core.List.{List}
use lib.Dec.{ltb, leb, eqb}
use lib.IntN.{ℤ, pos, neg_ℤ}
use lib.ListN.{take, drop}
use Rattle.std.specs.Prelude.{Option, Some, None, option_map, option_and_then, IfSome}
use Rattle.rows.proofs.Bool.{by-test, and_right}
use Rattle.orders.specs.declared.Table.{Table}
use Rattle.orders.specs.declared.Table.TheVariants.{Five, Six, Seven}
use Rattle.tables.specs.declared.Transfer.{Transfer}
use Rattle.rules.specs.declared.Exchange.{Exchange}
use Rattle.lab_sets.specs.declared.Cell.{Cell}
use Rattle.lab_sets.specs.declared.Thing.{Thing}
use Rattle.lab_sets.specs.declared.Change.{Change}
use Rattle.lab_sets.specs.declared.Change.TheVariants as change
use Rattle.lab_sets.specs.Ranges.{most, cell_most, in_range}
use Rattle.decimals.specs.declared.Number.{Number}
use Rattle.decimals.specs.declared.Numbers.{Numbers}
use Rattle.lab_names.specs.declared.Part.{Part}
use Rattle.lab_names.specs.declared.Part.TheVariants as part
use Rattle.lab_names.specs.Names.{part_named}
use Rattle.decimals.specs.Reading.{is_below, numbers_in, numbers_read}
use Rattle.lab_lines.specs.Ranges.{up_to, within, minus_one, right_size}
use Rattle.lab_lines.specs.Asked.{cell_asked, value_asked, exchange_of, exchange_asked, address_asked, moving, transfer_of, byte_at, five_asked, only, transfer_asked, thing_asked, asked_of, name_end, change_in}

module _ (P : Option Change → Type 0) (none : P None) (cells : (c : Cell) (n : ℕ) → leb n (cell_most c) ≡ true → P (Some (change.Cell c n)))
    (values : (id : ℕ) (v : ℤ) → P (Some (change.Value id v))) (exchanges : (x : Exchange) → P (Some (change.Exchange x)))
    (addresses : (g : Option ℕ) → P (Some (change.Address g))) (transfers : (t : Transfer) → P (Some (change.Transfer t)))
    (things : (t : Thing) (n : ℕ) → leb n (right_size t + 1024) ≡ true → P (Some (change.Thing t n))) where
  -- a number that is in its range
  size_case : (most : ℕ) (n : Number) (f : ℕ → Change) → ((k : ℕ) → leb k most ≡ true → P (Some (f k))) → P (option_map f (within most n))
  size_case most n f some =
      by-test (λ (o : Option ℕ). P (option_map f o)) (up_to most n) (λ e. some n.size (and_right (not (is_below n)) (leb n.size most) e)) (λ e. none)

  value_case : (id : ℕ) (n : Number) → P (value_asked id n)
  unfolding value_asked
  value_case id n =
      by-test P (is_below n && leb n.size (2 ^ 31)) (λ e. values id (neg_ℤ (pos n.size)))
      (λ e. by-test P (not (is_below n) && ltb n.size (2 ^ 31)) (λ f. values id (pos n.size)) (λ f. none))

  code_case : (n : ℕ) → P (exchange_of n)
  unfolding exchange_of
  code_case n =
      by-test P (eqb n 145) (λ e. exchanges _)
      (λ e. by-test P (eqb n 148) (λ f. exchanges _) (λ f. by-test P (eqb n 149) (λ g. exchanges _) (λ g. by-test P (eqb n 150) (λ h. exchanges _) (λ h. none))))

  exchange_case : (n : Number) → P (exchange_asked n)
  unfolding exchange_asked
  exchange_case n =
      by-test P (minus_one n) (λ e. exchanges _) (λ e. by-test P (is_below n) (λ f. none) (λ f. code_case n.size))

  address_case : (n : Number) → P (address_asked n)
  unfolding address_asked
  address_case n =
      by-test P (minus_one n) (λ e. addresses _) (λ e. size_case (most 16) n (λ a. change.Address (Some a)) (λ k f. addresses _))

  moving_case : (t : Table) (r n k s : ℕ) → P (moving t r n k s)
  unfolding moving
  moving_case t r n k s =
      by-test P (eqb r 0 && eqb s 0) (λ e. transfers _) (λ e. by-test P (eqb r 1) (λ f. transfers _) (λ f. none))

  five_case : (c r n k s : ℕ) → P (transfer_of c r n k s)
  unfolding transfer_of
  five_case c r n k s =
      by-test P (eqb c 1 && (eqb r 0 && (eqb n 1 && (eqb k 0 && eqb s 0)))) (λ e. transfers _)
      (λ e.
      by-test P (eqb c 5) (λ f. moving_case Five r n k s)
      (λ f. by-test P (eqb c 6) (λ g. moving_case Six r n k s) (λ g. by-test P (eqb c 7) (λ h. moving_case Seven r n k s) (λ h. none))))

  -- what stands where a value does, and nothing where none does
  then : {A : Type 0} (f : A → Option Change) (o : Option A) → ((a : A) → P (f a)) → P (option_and_then f o)
  then f None some = none
  then f (Some a) some = some a

  list_case : (l : List (Option Number)) → P (five_asked l)
  unfolding five_asked
  list_case l =
      then _ (byte_at l 0) (λ c. then _ (byte_at l 1) (λ r. then _ (byte_at l 2) (λ n. then _ (byte_at l 3) (λ k. then _ (byte_at l 4) (λ s. five_case c r n k s)))))

  transfer_case : (ns : Numbers) → P (transfer_asked ns)
  unfolding transfer_asked
  transfer_case ns =
      by-test P (eqb ns.count 5) (λ e. list_case ns.list) (λ e. then _ (only ns) (λ n. by-test P (minus_one n) (λ f. transfers _) (λ f. none)))

  part_case : (p : Part) (ns : Numbers) → P (asked_of p ns)
  unfolding asked_of cell_asked thing_asked
  part_case (part.Cell c) ns = then _ (only ns) (λ n. size_case (cell_most c) n (change.Cell c) (cells c))
  part_case (part.Value id) ns = then _ (only ns) (value_case id)
  part_case part.Exchange ns = then _ (only ns) exchange_case
  part_case part.Address ns = then _ (only ns) address_case
  part_case part.Transfer ns = transfer_case ns
  part_case (part.Thing t) ns = then _ (only ns) (λ n. size_case (right_size t + 1024) n (change.Thing t) (things t))

  pub asked_case : (t : List ℕ) → P (change_in t)
  unfolding change_in
  asked_case t = then _ (part_named (take (name_end t) t)) (λ p. part_case p (numbers_read (numbers_in (drop (name_end t) t))))

-- what a line asks for is in its range
pub inside : (t : List ℕ) → IfSome (change_in t) (λ c. in_range c ≡ true)
unfolding in_range
inside t =
    asked_case (λ o. IfSome o (λ c. in_range c ≡ true)) tt (λ c n e. e) (λ id v. refl) (λ x. refl) (λ g. refl) (λ t. refl) (λ t n e. refl) t
