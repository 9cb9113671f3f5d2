-- Items of a kind, each of so many characters: what one says, and what a text of them says.
-- Assumes nothing.
use Rattle.std.specs.Prelude.{◌≡◌, true, false, List, [], ◌∷◌, ◌++◌, ℕ, ◌^◌, ◌<◌, ◌≤◌, length, slice_index, Option, refl}
use Rattle.std.proofs.Common.{arith}
use prog.Memory.{size}
use denote.RattleType.{RattleType}
use denote.Param.{layout}
use Rattle.items.specs.Text.{ItemsRead, items_read, behind_item, byte_item, word_item, bytes_in, words_in}

-- an item has characters, and a text is read an item at a time
pub record ReadsItems {A : Type 0} (n : ℕ) (one : List ℕ → Option A) (text : List ℕ → ItemsRead A) : Type 0 where
  pub some : 0 < n
  pub short : n < 2 ^ 63
  pub at_end : text [] ≡ items_read [] true
  pub too_few : (t : List ℕ) → 0 < length t → length t < n → text t ≡ items_read [] false
  pub an_item : (t rest : List ℕ) → length t ≡ n → text (t ++ rest) ≡ behind_item (one t) (text rest)

-- a value of the type takes so many bytes at the most
abbrev pub TakesAtMost : ℕ → RattleType → Type 0
TakesAtMost n R = size (layout R) ≤ n

-- the characters of one item
abbrev pub byte_part : List ℕ → Option ℕ
byte_part t = byte_item (slice_index t 0) (slice_index t 1) (slice_index t 2)

abbrev pub word_part : List ℕ → Option ℕ
word_part t = word_item (slice_index t 0) (slice_index t 1) (slice_index t 2) (slice_index t 3) (slice_index t 4)

bytes-few : (t : List ℕ) → 0 < length t → length t < 3 → bytes_in t ≡ items_read [] false
unfolding bytes_in
bytes-few [] h k = absurd (omega arith)
bytes-few (s ∷ []) h k = refl
bytes-few (s ∷ c ∷ []) h k = refl
bytes-few (s ∷ c ∷ d ∷ rest) h k = absurd (omega arith)

bytes-one : (t rest : List ℕ) → length t ≡ 3 → bytes_in (t ++ rest) ≡ behind_item (byte_part t) (bytes_in rest)
unfolding bytes_in
bytes-one [] rest h = absurd (omega arith)
bytes-one (s ∷ []) rest h = absurd (omega arith)
bytes-one (s ∷ c ∷ []) rest h = absurd (omega arith)
bytes-one (s ∷ c ∷ d ∷ []) rest h = refl
bytes-one (s ∷ c ∷ d ∷ e ∷ more) rest h = absurd (omega arith)

bytes_end : bytes_in [] ≡ items_read [] true
unfolding bytes_in
bytes_end = refl

pub byte_laws : ReadsItems 3 byte_part bytes_in
byte_laws = record { some = omega arith; short = omega arith; at_end = bytes_end; too_few = bytes-few; an_item = bytes-one }

words-few : (t : List ℕ) → 0 < length t → length t < 5 → words_in t ≡ items_read [] false
unfolding words_in
words-few [] h k = absurd (omega arith)
words-few (s ∷ []) h k = refl
words-few (s ∷ a ∷ []) h k = refl
words-few (s ∷ a ∷ b ∷ []) h k = refl
words-few (s ∷ a ∷ b ∷ c ∷ []) h k = refl
words-few (s ∷ a ∷ b ∷ c ∷ d ∷ rest) h k = absurd (omega arith)

words-one : (t rest : List ℕ) → length t ≡ 5 → words_in (t ++ rest) ≡ behind_item (word_part t) (words_in rest)
unfolding words_in
words-one [] rest h = absurd (omega arith)
words-one (s ∷ []) rest h = absurd (omega arith)
words-one (s ∷ a ∷ []) rest h = absurd (omega arith)
words-one (s ∷ a ∷ b ∷ []) rest h = absurd (omega arith)
words-one (s ∷ a ∷ b ∷ c ∷ []) rest h = absurd (omega arith)
words-one (s ∷ a ∷ b ∷ c ∷ d ∷ []) rest h = refl
words-one (s ∷ a ∷ b ∷ c ∷ d ∷ e ∷ more) rest h = absurd (omega arith)

words_end : words_in [] ≡ items_read [] true
unfolding words_in
words_end = refl

pub word_laws : ReadsItems 5 word_part words_in
word_laws = record { some = omega arith; short = omega arith; at_end = words_end; too_few = words-few; an_item = words-one }
