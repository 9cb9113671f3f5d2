-- How the fields of a frame lie, and how they are read back.
use Prim.Native.Nat.{ℕ, ◌+◌, ◌*◌}
use mathlib.Core.Path.{◌≡◌}
use mathlib.Core.Bool.{Bool, true, cond, not, ◌&&◌, ◌||◌}
use mathlib.Core.List.{List, [], ◌∷◌}
use lib.Dec.{ltb, leb, eqb}
use lib.ListN.{get_or}
use Rattle.frames.specs.Fields.{Field, bits_of}

-- a channel in a frame: "low byte, then bits 9 and 8"
unfoldable pub channel_at : List ℕ → ℕ → ℕ
channel_at bytes k = get_or bytes k 0 + bits_of (get_or bytes (k + 1) 0) 1 0 * 256

-- two fields that share no bit
abbrev pub apart : Field → Field → Bool
apart f g = not (eqb f.byte g.byte) || (ltb f.high g.low || ltb g.high f.low)

-- a field that shares no bit with any of these
abbrev pub apart_all : Field → List Field → Bool
apart_all f [] = true
apart_all f (g ∷ fs) = apart f g && apart_all f fs

-- "no field overlaps another"
abbrev pub disjoint : List Field → Bool
disjoint [] = true
disjoint (f ∷ fs) = apart_all f fs && disjoint fs

-- these fields take up, one after the other, the bits of byte k below bit t, and all bits of the bytes behind it up to byte 7
abbrev pub tiles : ℕ → ℕ → List Field → Bool
tiles k t [] = eqb k 8 && eqb t 8
tiles k t (f ∷ fs) =
    (eqb f.byte k && (eqb (f.high + 1) t && leb f.low f.high))
    && tiles (cond (eqb f.low 0) (k + 1) k) (cond (eqb f.low 0) 8 f.low) fs

-- a fact of each field of a table
abbrev pub Each : (Field → Type 0) → List Field → Type 0
Each P [] = Unit {0}
Each P (f ∷ fs) = P f × Each P fs

-- a field's value can be read back from a frame
abbrev pub ReadBack : List ℕ → Field → Type 0
ReadBack bytes f = bits_of (get_or bytes f.byte 0) f.high f.low ≡ f.value
