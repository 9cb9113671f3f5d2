-- The shifts of the code: each is a linear function, and so equal to what the register does once it is at the powers of 2.
use mathlib.Core.Path.{◌≡◌, refl, sym, ap, ap₂, ◌∙◌}
use mathlib.Core.List.{List, [], ◌∷◌}
use Prim.Native.Nat.{ℕ, ◌+◌, ◌-◌, ◌*◌, ◌/◌, ◌%◌, ◌^◌, ◌<◌, ◌≤◌}
use native.Mathlib.Omega.{arith}
use lib.Bits.{bit_xor, xor_zero_r, xor_lt, xor_shr, xor_mod}
use lib.ListN.{length, get_or, take, drop, length-take, length-drop, drop_of_length-le}
use lib.Pow.{high, low}
use lib.Seq.{drop-drop}
use native.Mathlib.Nat.{zero-add}
use Rattle.std.specs.Int.{w16, w64, from_be_bytes}
use Rattle.std.specs.Simd.{first_chunks}
use Rattle.std.proofs.lemmas.Nat.{be_bytes_2, be_bytes_8}
use Rattle.crc.specs.Crc.{poly, leaving, bit_in, bits, bits_in, crc_from, crc_of}
use Rattle.crc.specs.Bytes.{crc_bytes}
use Rattle.crc.proofs.Linear.{Linear, Shifts, shifts, linear, shifts_fit, basis}
use Rattle.crc.proofs.Linear.Shifts.{plain, down, low as digits, up, sum}
use Rattle.crc.proofs.Register.{byte_in, byte_in-xor, from-none, from_one}
use Rattle.crc.proofs.Bytes.{both-xor, two_bytes, eight_bytes, chunk_at, part_fits, more}

-- ---- one byte, by the shifts of `one`. A register and a byte are one number of 24 bits here

abbrev mixed : Shifts → Shifts
mixed x = sum x (down 4 x)

abbrev shifted : Shifts → Shifts → Shifts
shifted c y = sum (sum (sum (up 8 c) y) (up 5 y)) (up 12 y)

abbrev byte_shifts : Shifts
byte_shifts = shifted (down 8 plain) (mixed (sum (down 8 (down 8 plain)) (digits 8 plain)))

byte_in_lin : Linear (λ n. byte_in (n / 2 ^ 8) (n % 2 ^ 8))
byte_in_lin a b = ap₂ byte_in (xor_shr a b 8) (xor_mod a b 8) ∙ byte_in-xor (a / 2 ^ 8) (b / 2 ^ 8) (a % 2 ^ 8) (b % 2 ^ 8)

both_at : (n : ℕ) → n < 2 ^ 24 → shifts 16 byte_shifts n ≡ byte_in (n / 2 ^ 8) (n % 2 ^ 8)
unfolding byte_in crc_from bits_in bits bit_in leaving poly
both_at = basis (shifts 16 byte_shifts) (λ n. byte_in (n / 2 ^ 8) (n % 2 ^ 8)) (linear 16 byte_shifts) byte_in_lin 24 tt

pub by_shifts : (c b : ℕ) → c < 2 ^ 16 → b < 2 ^ 8
    → bit_xor (bit_xor (bit_xor (c * 2 ^ 8 % 2 ^ 16) (shifts 16 (mixed plain) (bit_xor (c / 2 ^ 8) b))) (shifts 16 (up 5 (mixed plain)) (bit_xor (c / 2 ^ 8) b)))
    (shifts 16 (up 12 (mixed plain)) (bit_xor (c / 2 ^ 8) b))
    ≡ crc_from c (b ∷ [])
by_shifts c b h l = rw (high c 8 l, low c 8 l) at (both_at (c * 2 ^ 8 + b) (omega arith)) ∙ sym (from_one c b)

-- ---- the register of 64 bits

-- a number of 64 bits stands for the register that its eight bytes leave in an empty one
unfoldable pub fold : ℕ → ℕ
fold s = crc_from 0 (crc_bytes 8 s)

fold_lin : Linear fold
unfolding fold
fold_lin a b = both-xor 8 0 0 a b

-- the shifts of a register of n times 16 bits, and as many zero bits more: `two` has n 1, `halved` 2, `crc_of` 4
abbrev half : ℕ → Shifts → Shifts
half n x = sum x (down (4 * n) x)

abbrev quotient : ℕ → Shifts → Shifts
quotient n x = sum (sum (half n x) (down (8 * n) (half n x))) (down (11 * n) x)

abbrev rest : ℕ → Shifts → Shifts
rest n h = sum (sum h (up (5 * n) h)) (up (12 * n) h)

abbrev raise : ℕ → ℕ → ℕ
raise n = shifts (16 * n) (rest n (quotient n plain))

raise_lin : (n : ℕ) → Linear (raise n)
raise_lin n = linear (16 * n) (rest n (quotient n plain))

zeros_lin : (n : ℕ) → Linear (λ c. crc_from c (crc_bytes n 0))
zeros_lin n a b = both-xor n a b 0 0

-- two zero bytes more, by the shifts of `two`
raised : (s : ℕ) → s < 2 ^ 16 → raise 1 s ≡ crc_from s (crc_bytes 2 0)
unfolding crc_bytes crc_from bits_in bits bit_in leaving poly
raised = basis (raise 1) (λ s. crc_from s (crc_bytes 2 0)) (raise_lin 1) (zeros_lin 2) 16 tt

-- eight zero bytes more, by the shifts of `crc_of`
lifted : (s : ℕ) → s < 2 ^ 64 → fold (raise 4 s) ≡ crc_from (fold s) (crc_bytes 8 0)
unfolding fold crc_bytes crc_from bits_in bits bit_in leaving poly
lifted =
    basis (λ s. fold (raise 4 s)) (λ s. crc_from (fold s) (crc_bytes 8 0)) (λ a b. ap fold (raise_lin 4 a b) ∙ fold_lin (raise 4 a) (raise 4 b))
    (λ a b. ap (λ (c : ℕ). crc_from c (crc_bytes 8 0)) (fold_lin a b) ∙ zeros_lin 8 (fold a) (fold b)) 64 tt

-- the upper 32 bits of 64 as such a register, and the lower 32 added
abbrev halves : Shifts
halves = sum (rest 2 (quotient 2 (down 32 plain))) (digits 32 plain)

pub in_halves : (s : ℕ) → s < 2 ^ 64 → crc_from 0 (crc_bytes 4 (shifts 32 halves s)) ≡ crc_from 0 (crc_bytes 8 s)
unfolding crc_bytes crc_from bits_in bits bit_in leaving poly
in_halves =
    basis (λ s. crc_from 0 (crc_bytes 4 (shifts 32 halves s))) (λ s. crc_from 0 (crc_bytes 8 s))
    (λ a b. ap (λ (x : ℕ). crc_from 0 (crc_bytes 4 x)) (linear 32 halves a b) ∙ both-xor 4 0 0 (shifts 32 halves a) (shifts 32 halves b))
    (λ a b. both-xor 8 0 0 a b) 64 tt

-- two bytes enter an empty register as they would stand in a full one
entered : (w : ℕ) → w < 2 ^ 16 → crc_from 0 (crc_bytes 2 w) ≡ crc_from w (crc_bytes 2 0)
unfolding crc_bytes crc_from bits_in bits bit_in leaving poly
entered = basis (λ w. crc_from 0 (crc_bytes 2 w)) (λ w. crc_from w (crc_bytes 2 0)) (λ a b. both-xor 2 0 0 a b) (zeros_lin 2) 16 tt

pub two_more : (c w : ℕ) → c < 2 ^ 16 → w < 2 ^ 16 → raise 1 (bit_xor c w) ≡ crc_from c (crc_bytes 2 w)
two_more c w h l =
    raise_lin 1 c w ∙ ap₂ bit_xor (raised c h) (raised w l ∙ sym (entered w l)) ∙ sym (both-xor 2 c 0 0 w)
    ∙ ap (λ (x : ℕ). crc_from x (crc_bytes 2 w)) (xor_zero_r c)

added : (s w : ℕ) → bit_xor (crc_from (fold s) (crc_bytes 8 0)) (fold w) ≡ crc_from (fold s) (crc_bytes 8 w)
unfolding fold
added s w = sym (both-xor 8 (fold s) 0 0 w) ∙ ap (λ (x : ℕ). crc_from x (crc_bytes 8 w)) (xor_zero_r (fold s))

-- and eight bytes that are not zero are added to them
pub eight_more : (s w : ℕ) → s < 2 ^ 64 → fold (bit_xor (raise 4 s) w) ≡ crc_from (fold s) (crc_bytes 8 w)
eight_more s w h = fold_lin (raise 4 s) w ∙ ap (λ (x : ℕ). bit_xor x (fold w)) (lifted s h) ∙ added s w

-- and it stays a register of 64 bits
pub eight_fits : (s w : ℕ) → s < 2 ^ 64 → w < 2 ^ 64 → bit_xor (raise 4 s) w < 2 ^ 64
eight_fits s w h l = xor_lt 64 (raise 4 s) w (shifts_fit 64 (rest 4 (quotient 4 plain)) s h) l

-- what stands in it at the start
pub started : fold 33999 ≡ 65535
unfolding fold crc_bytes crc_from bits_in bits bit_in leaving poly
started = refl

-- ---- the code's steps: what the register stands for, once more bytes of a list have come in

come : (n c at k : ℕ) (bytes part : List ℕ) → part ≡ take n (drop at bytes) → k ≡ at + n → crc_from c (drop at bytes) ≡ crc_of bytes
    → crc_from (crc_from c part) (drop k bytes) ≡ crc_of bytes
come n c at k bytes part p e h = rw (p, e) (sym (more n c bytes at) ∙ h)

-- the next chunk of the bytes from a place on, which all stand in the list
chunk : (n at i : ℕ) (bytes rest : List ℕ) (chunks : List (List ℕ)) → rest ≡ drop at bytes → chunks ≡ first_chunks n (length rest / n) rest
    → i < length rest / n → get_or chunks i [] ≡ take n (drop (at + i * n) bytes)
chunk n at i bytes rest chunks r e h =
    let there : drop (i * n) rest ≡ drop (at + i * n) bytes = rw r (drop-drop (i * n) at bytes) in
    ap (λ (cs : List (List ℕ)). get_or cs i []) e ∙ chunk_at n (length rest / n) i rest h ∙ ap (take n) there

pub eight_come : (s w i : ℕ) (bytes : List ℕ) (words : List (List ℕ)) → s < 2 ^ 64 → w < 2 ^ 64 → ((k : ℕ) → get_or bytes k 0 < 256)
    → words ≡ first_chunks 8 (length bytes / 8) bytes → i < length bytes / 8 → w ≡ from_be_bytes w64 (get_or words i [])
    → crc_from (fold s) (drop (i * 8) bytes) ≡ crc_of bytes
    → (bit_xor (raise 4 s) w < 2 ^ 64) × (crc_from (fold (bit_xor (raise 4 s) w)) (drop ((i + 1) * 8) bytes) ≡ crc_of bytes)
eight_come s w i bytes words hs hw fits ws within e h =
    let at = i * 8 in
    let part = take 8 (drop at bytes) in
    let long : length part ≡ 8 = simp (length-take, length-drop) (omega arith) in
    let read : w ≡ from_be_bytes w64 part = e ∙ ap (from_be_bytes w64) (rw zero-add at (chunk 8 0 i bytes bytes words refl ws within)) in
    let whole : crc_bytes 8 w ≡ part = eight_bytes w ∙ be_bytes_8 part w long (λ k. part_fits 8 at k bytes fits) read in
    (eight_fits s w hs hw, rw (eight_more s w hs) (come 8 (fold s) at ((i + 1) * 8) bytes (crc_bytes 8 w) whole (omega arith) h))

pub two_come : (c w at i : ℕ) (bytes rest : List ℕ) (pairs : List (List ℕ)) → ((k : ℕ) → get_or bytes k 0 < 256) → rest ≡ drop at bytes
    → pairs ≡ first_chunks 2 (length rest / 2) rest → i < length rest / 2 → w ≡ from_be_bytes w16 (get_or pairs i [])
    → crc_from c (drop (at + i * 2) bytes) ≡ crc_of bytes
    → crc_from (crc_from c (crc_bytes 2 w)) (drop (at + (i + 1) * 2) bytes) ≡ crc_of bytes
two_come c w at i bytes rest pairs fits r ps within e h =
    let from = at + i * 2 in
    let part = take 2 (drop from bytes) in
    let held : length rest ≡ length bytes - at = ap length r ∙ length-drop at bytes in
    let long : length part ≡ 2 = simp (length-take, length-drop) (omega arith) in
    let read : w ≡ from_be_bytes w16 part = e ∙ ap (from_be_bytes w16) (chunk 2 at i bytes rest pairs r ps within) in
    let whole : crc_bytes 2 w ≡ part = two_bytes w ∙ be_bytes_2 part w long (λ k. part_fits 2 from k bytes fits) read in
    come 2 c from (at + (i + 1) * 2) bytes (crc_bytes 2 w) whole (omega arith) h

-- none is left
pub all_come : (c k : ℕ) (bytes : List ℕ) → length bytes ≤ k → crc_from c (drop k bytes) ≡ crc_of bytes → c ≡ crc_of bytes
all_come c k bytes h e = rw (drop_of_length-le, from-none) at e
