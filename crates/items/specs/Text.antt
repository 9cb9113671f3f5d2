-- What a text is: "Bytes are pairs of capital hex digits after one space each", words are four digits. Written, and read.
-- Assumes nothing.
use Rattle.std.specs.Prelude.{Bool, true, false, ◌&&◌, cond, List, [], ◌∷◌, ◌++◌, ℕ, ◌+◌, ◌-◌, ◌*◌, ltb, leb, eqb, length, Option, Some, None}
use Rattle.hexes.specs.Digits.{byte_digits}
use Rattle.items.specs.Characters.{space}

-- bytes as they are printed: each after one space
unfoldable pub spell : List ℕ → List ℕ
spell [] = []
spell (b ∷ bs) = space ∷ (byte_digits b ++ spell bs)

-- a capital hex digit's value: 0 to 9 stand at 48, A to F at 65; 16 for every other character
unfoldable pub digit_value : ℕ → ℕ
digit_value c =
    cond (leb 48 c && leb c 57) (c - 48)
    (cond (leb 65 c && leb c 70) (c - 55)
    16)

-- two digits, the higher first
unfoldable pub pair_in : ℕ → ℕ → Option ℕ
pair_in h l = cond (ltb (digit_value h) 16 && ltb (digit_value l) 16) (Some (digit_value h * 16 + digit_value l)) None

-- a byte's item: one space and two digits
unfoldable pub byte_item : ℕ → ℕ → ℕ → Option ℕ
byte_item s h l = cond (eqb s space) (pair_in h l) None

-- two bytes, the higher first
unfoldable pub word_of : Option ℕ → Option ℕ → Option ℕ
word_of (Some h) (Some l) = Some (h * 256 + l)
word_of (Some h) None = None
word_of None l = None

-- a word's item: one space and four digits
unfoldable pub word_item : ℕ → ℕ → ℕ → ℕ → ℕ → Option ℕ
word_item s a b c d = cond (eqb s space) (word_of (pair_in a b) (pair_in c d)) None

-- a text read from its front: the values up to the first place that is no item, and whether that place is the end
pub record ItemsRead (A : Type 0) : Type 0 where
  pub values : List A
  pub whole : Bool

abbrev pub items_read : {A : Type 0} → List A → Bool → ItemsRead A
items_read vs b = record { values = vs; whole = b }

-- an item, and what is read behind it
abbrev pub behind_item : {A : Type 0} → Option A → ItemsRead A → ItemsRead A
behind_item None r = items_read [] false
behind_item (Some v) r = items_read (v ∷ r.values) r.whole

-- a text of byte items
unfoldable pub bytes_in : List ℕ → ItemsRead ℕ
bytes_in [] = items_read [] true
bytes_in (s ∷ []) = items_read [] false
bytes_in (s ∷ h ∷ []) = items_read [] false
bytes_in (s ∷ h ∷ l ∷ rest) = behind_item (byte_item s h l) (bytes_in rest)

-- a text of word items
unfoldable pub words_in : List ℕ → ItemsRead ℕ
words_in [] = items_read [] true
words_in (s ∷ []) = items_read [] false
words_in (s ∷ a ∷ []) = items_read [] false
words_in (s ∷ a ∷ b ∷ []) = items_read [] false
words_in (s ∷ a ∷ b ∷ c ∷ []) = items_read [] false
words_in (s ∷ a ∷ b ∷ c ∷ d ∷ rest) = behind_item (word_item s a b c d) (words_in rest)

-- what a reader answers: how many values, where the text is whole
unfoldable pub items_of : {A : Type 0} → ItemsRead A → Option ℕ
items_of r = cond r.whole (Some (length r.values)) None
