-- One byte that is another changes the CRC, and a run with its CRC behind it has the CRC 0: for any length.
use mathlib.Core.Path.{◌≡◌, refl, sym, ap, ◌∙◌}
use mathlib.Core.List.{List, [], ◌∷◌, ◌++◌}
use mathlib.Core.Logic.{◌↔◌}
use Prim.Native.Nat.{ℕ, suc, ◌+◌, ◌-◌, ◌*◌, ◌^◌, ◌<◌}
use native.Mathlib.Omega.{arith}
use lib.Bits.{bit_xor, xor_self, xor_lt}
use lib.ListN.{length, get_or, set, take, drop}
use lib.Seq.{set_split, set-get_or}
use Rattle.crc.specs.Crc.{poly, leaving, bit_in, bits, bits_in, crc_from, crc_of}
use Rattle.crc.specs.Bytes.{crc_bytes}
use Rattle.crc.proofs.Xor.{xor_apart}
use Rattle.crc.proofs.Linear.{Linear, Shifts, shifts, linear, lin_up, basis}
use Rattle.crc.proofs.Linear.Shifts.{plain, down, low, up, sum}
use Rattle.crc.proofs.Register.{byte_in, byte_in-xor, byte_in-lt, from-none, from_cons, from-append}
use Rattle.crc.proofs.Bytes.{one_byte_lem, last_byte}
use Rattle.crc.proofs.Fold.{two_more}
use Rattle.crc.proofs.Laws.{below}

-- ---- one zero byte more can be taken back

-- the low byte of the register is what was put back there by shifts, its lowest 3 bits added once more at the top
abbrev put_back : Shifts
put_back = low 8 (sum plain (up 5 plain))

-- from it the byte that left comes to the top again, and what it added above it goes
abbrev back : Shifts
back = sum (up 8 (sum put_back (down 4 put_back))) (low 8 (sum (down 8 plain) (sum (down 3 put_back) (up 4 put_back))))

zero_lin : Linear (λ c. byte_in c 0)
zero_lin a b = byte_in-xor a b 0 0

taken_back_lem : (c : ℕ) → c < 2 ^ 16 → shifts 16 back (byte_in c 0) ≡ c
unfolding byte_in crc_from bits_in bits bit_in leaving poly
taken_back_lem =
    basis (λ c. shifts 16 back (byte_in c 0)) (λ c. c)
    (λ a b. ap (shifts 16 back) (zero_lin a b) ∙ linear 16 back (byte_in a 0) (byte_in b 0)) (λ a b. refl) 16 tt

-- so only an empty register stays empty
stays_empty : (c : ℕ) → c < 2 ^ 16 → byte_in c 0 ≡ 0 → c ≡ 0
stays_empty c h e = sym (taken_back_lem c h) ∙ ap (shifts 16 back) e

-- ---- two registers, or two bytes, that give the same are the same

-- added without a carry, they leave nothing
none_left : (c d a b : ℕ) → byte_in c a ≡ byte_in d b → byte_in (bit_xor c d) (bit_xor a b) ≡ 0
none_left c d a b e = byte_in-xor c d a b ∙ ap (λ (x : ℕ). bit_xor x (byte_in d b)) e ∙ xor_self (byte_in d b)

one_same : (b c d : ℕ) → c < 2 ^ 16 → d < 2 ^ 16 → byte_in c b ≡ byte_in d b → c ≡ d
one_same b c d h l e =
    xor_apart c d (stays_empty (bit_xor c d) (xor_lt 16 c d h l) (ap (byte_in (bit_xor c d)) (sym (xor_self b)) ∙ none_left c d b b e))

from-same : (bs : List ℕ) (c d : ℕ) → c < 2 ^ 16 → d < 2 ^ 16 → crc_from c bs ≡ crc_from d bs → c ≡ d
from-same [] c d h l e = rw (from-none c, from-none d) at e
from-same (b ∷ bs) c d h l e =
    one_same b c d h l (from-same bs (byte_in c b) (byte_in d b) (byte_in-lt c b) (byte_in-lt d b) (rw (from_cons c, from_cons d) at e))

-- a byte enters an empty register as it would stand at the top of a full one
byte_entered : (b : ℕ) → b < 2 ^ 8 → byte_in 0 b ≡ byte_in (b * 2 ^ 8) 0
unfolding byte_in crc_from bits_in bits bit_in leaving poly
byte_entered =
    basis (byte_in 0) (λ b. byte_in (b * 2 ^ 8) 0) (λ a b. byte_in-xor 0 0 a b)
    (λ a b. ap (λ (x : ℕ). byte_in x 0) (lin_up 8 a b) ∙ zero_lin (a * 2 ^ 8) (b * 2 ^ 8)) 8 tt

byte_same : (c a b : ℕ) → a < 2 ^ 8 → b < 2 ^ 8 → byte_in c a ≡ byte_in c b → a ≡ b
byte_same c a b h l e =
    let fits = xor_lt 8 a b h l in
    let enters : byte_in 0 (bit_xor a b) ≡ 0 = ap (λ (x : ℕ). byte_in x (bit_xor a b)) (sym (xor_self c)) ∙ none_left c c a b e in
    let none : bit_xor a b * 2 ^ 8 ≡ 0 = stays_empty (bit_xor a b * 2 ^ 8) (omega arith) (sym (byte_entered (bit_xor a b) fits) ∙ enters) in
    xor_apart a b (omega arith)

-- ---- one byte replaced

-- two runs that differ in one byte at most, and have one CRC, differ in none
one_byte-same : (xs ys : List ℕ) (a b : ℕ) → a < 256 → b < 256 → crc_of (xs ++ (a ∷ ys)) ≡ crc_of (xs ++ (b ∷ ys)) → a ≡ b
unfolding crc_of
one_byte-same xs ys a b h l e =
    let c = crc_from (2 ^ 16 - 1) xs in
    byte_same c a b h l
    (from-same ys (byte_in c a) (byte_in c b) (byte_in-lt c a) (byte_in-lt c b)
    (rw (from-append (2 ^ 16 - 1) xs (a ∷ ys), from-append (2 ^ 16 - 1) xs (b ∷ ys), from_cons c a, from_cons c b) at e))

-- the same of a byte set into a run: a byte that is another changes the CRC
replaced : (p : List ℕ) (k b : ℕ) → k < length p → get_or p k 0 < 256 → b < 256 → crc_of (set p k b) ≡ crc_of p → b ≡ get_or p k 0
replaced p k b h old new e =
    one_byte-same (take k p) (drop (suc k) p) b (get_or p k 0) new old
    (sym (ap crc_of (set_split p k b h)) ∙ e ∙ ap crc_of (sym (set-get_or p k 0) ∙ set_split p k (get_or p k 0) h))

-- ---- the CRC of a run with its CRC behind it

own : (w : ℕ) → w < 2 ^ 16 → crc_from w (crc_bytes 2 w) ≡ 0
own w h = sym (two_more w w h h) ∙ rw (xor_self w)

-- two bytes behind a run, high byte first, are its CRC exactly when the whole has the CRC 0
residue : (xs : List ℕ) (h l : ℕ) → h < 256 → l < 256 → (crc_of (xs ++ (h ∷ l ∷ [])) ≡ 0) ↔ (crc_of xs ≡ h * 256 + l)
unfolding crc_of
residue xs h l hb lb =
    let c = crc_from (2 ^ 16 - 1) xs in
    let w = h * 256 + l in
    let fits : w < 2 ^ 16 = omega arith in
    let both : crc_bytes 2 w ≡ h ∷ l ∷ [] = last_byte 1 h l lb ∙ ap (λ (bs : List ℕ). bs ++ (l ∷ [])) (one_byte_lem h hb) in
    let whole : crc_from (2 ^ 16 - 1) (xs ++ (h ∷ l ∷ [])) ≡ crc_from c (crc_bytes 2 w) = from-append (2 ^ 16 - 1) xs (h ∷ l ∷ []) ∙ ap (crc_from c) (sym both) in (
      λ e. from-same (crc_bytes 2 w) c w (below xs) fits (sym whole ∙ e ∙ sym (own w fits)),
      λ e. whole ∙ ap (λ (x : ℕ). crc_from x (crc_bytes 2 w)) e ∙ own w fits,
    )

-- a run with a right CRC: its last two bytes, high byte first, are that of all before them
pub record Closed (p : List ℕ) : Type 0 where
  pub front : List ℕ
  pub high : ℕ
  pub low : ℕ
  pub bytes : (high < 256) × (low < 256)
  pub whole : p ≡ front ++ (high ∷ low ∷ [])
  pub right : crc_of front ≡ high * 256 + low

nothing_left : {p : List ℕ} → Closed p → crc_of p ≡ 0
nothing_left c = ap crc_of c.whole ∙ (residue c.front c.high c.low c.bytes.0 c.bytes.1).1 c.right

-- one byte set anywhere in it, the last two not left out: if the CRC is right again, it is the byte that stood there
pub undamaged : (p : List ℕ) (k b : ℕ) → k < length p → get_or p k 0 < 256 → b < 256 → Closed p → Closed (set p k b) → b ≡ get_or p k 0
undamaged p k b h old new c d = replaced p k b h old new (nothing_left d ∙ sym (nothing_left c))
