-- A frame as a table of fields at their bit positions, as document 000 writes them.
use Rattle.std.specs.Prelude.{ℕ, ◌+◌, ◌-◌, ◌*◌, ◌/◌, ◌%◌, ◌^◌, Bool, cond, List, [], ◌∷◌, map, eqb}

-- a line of the guide's table: byte.high-low, and what stands there
pub record Field : Type 0 where
  pub byte : ℕ
  pub high : ℕ
  pub low : ℕ
  pub value : ℕ

-- byte.high-low
abbrev pub field_bits : ℕ → ℕ → ℕ → ℕ → Field
field_bits b h l v = record { byte = b; high = h; low = l; value = v }

-- byte.bit, a flag
abbrev pub field_bit : ℕ → ℕ → Bool → Field
field_bit b l f = field_bits b l l (cond f 1 0)

-- bits high..low of a number
abbrev pub bits_of : ℕ → ℕ → ℕ → ℕ
bits_of v h l = v / 2 ^ l % 2 ^ (h + 1 - l)

-- what the fields of a byte come to: each stands from its lowest bit up
unfoldable pub placed : List Field → ℕ → ℕ
placed [] k = 0
placed (f ∷ fs) k = cond (eqb f.byte k) (f.value * 2 ^ f.low) 0 + placed fs k

-- the eight bytes of a frame
unfoldable pub frame : List Field → List ℕ
frame fs = map (placed fs) (0 ∷ 1 ∷ 2 ∷ 3 ∷ 4 ∷ 5 ∷ 6 ∷ 7 ∷ [])
