-- The bytes of a number: cut in two, joined, and into the register.
use mathlib.Core.Path.{◌≡◌, refl, sym, ap, ◌∙◌}
use mathlib.Core.List.{List, [], ◌∷◌, ◌++◌, append_assoc, append-nil}
use Prim.Native.Nat.{ℕ, zero, suc, ◌+◌, ◌*◌, ◌/◌, ◌%◌, ◌^◌, ◌<◌}
use native.Mathlib.Nat.{add_comm, zero-add, suc-add, zero-mul, suc-mul}
use native.Mathlib.Omega.{arith}
use lib.Bits.{bit_xor, xor_shr, xor_mod}
use lib.ListN.{get_or, take, drop, take-append-drop}
use Rattle.std.proofs.lemmas.List.{get_or-drop}
use lib.Seq.{drop-drop}
use lib.Pow.{shr-shr, field, mod-mod-pow, high, low}
use Rattle.std.specs.Int.{w16, w64, to_be_bytes}
use Rattle.std.specs.Simd.{first_chunks}
use Rattle.crc.specs.Crc.{crc_from}
use Rattle.crc.specs.Bytes.{crc_bytes}
use Rattle.crc.proofs.Register.{byte_in-xor, from-none, from_one, from-append}

-- a number below 256 is its one byte
pub one_byte_lem : (b : ℕ) → b < 256 → crc_bytes 1 b ≡ b ∷ []
unfolding crc_bytes
one_byte_lem b h = let e : b % 256 ≡ b = omega arith in rw e

-- the bytes above the lowest n, and then those
pub cut : (n m w : ℕ) → crc_bytes (n + m) w ≡ crc_bytes m (w / 2 ^ (n * 8)) ++ crc_bytes n (w % 2 ^ (n * 8))
unfolding crc_bytes
cut zero m w = let whole : w / 1 ≡ w = omega arith in rw (zero-add, whole, append-nil)
cut (suc n) m w =
    let up : suc n * 8 ≡ n * 8 + 8 = omega arith in
    let high_part : w / 256 / 2 ^ (n * 8) ≡ w / 2 ^ (suc n * 8) = shr-shr w 8 (n * 8) ∙ ap (λ (k : ℕ). w / 2 ^ k) (add_comm 8 (n * 8) ∙ sym up) in
    let low_part : w / 256 % 2 ^ (n * 8) ≡ w % 2 ^ (suc n * 8) / 256 = rw up (sym (field w (n * 8) 8)) in
    let last : w % 256 ≡ w % 2 ^ (suc n * 8) % 256 = rw up (sym (mod-mod-pow w (n * 8) 8)) in
    rw (suc-add, cut n m (w / 256), high_part, low_part, last, append_assoc)

-- and then the last of its bytes
pub last_byte : (n u b : ℕ) → b < 256 → crc_bytes (suc n) (u * 256 + b) ≡ crc_bytes n u ++ (b ∷ [])
unfolding crc_bytes
last_byte n u b h = rw (high u 8 h, low u 8 h)

-- into the register: the upper bytes first
pub in_two : (n m c w : ℕ)
    → crc_from (crc_from c (crc_bytes m (w / 2 ^ (n * 8)))) (crc_bytes n (w % 2 ^ (n * 8))) ≡ crc_from c (crc_bytes (n + m) w)
in_two n m c w = sym (ap (crc_from c) (cut n m w) ∙ from-append c (crc_bytes m (w / 2 ^ (n * 8))) (crc_bytes n (w % 2 ^ (n * 8))))

-- the sums of two registers and of two numbers give the sum of what they give
pub both-xor : (n a b v w : ℕ) → crc_from (bit_xor a b) (crc_bytes n (bit_xor v w)) ≡ bit_xor (crc_from a (crc_bytes n v)) (crc_from b (crc_bytes n w))
unfolding crc_bytes
both-xor zero a b v w = rw (from-none, from-none, from-none)
both-xor (suc n) a b v w =
    rw (xor_shr v w 8, xor_mod v w 8, from-append, from-append a, from-append b, from_one, from_one, from_one, both-xor n a b (v / 256) (w / 256))
    (byte_in-xor (crc_from a (crc_bytes n (v / 256))) (crc_from b (crc_bytes n (w / 256))) (v % 256) (w % 256))

-- ---- the bytes of a list

-- the library's bytes of a number
pub two_bytes : (w : ℕ) → crc_bytes 2 w ≡ to_be_bytes w16 w
unfolding crc_bytes
two_bytes w = refl

pub eight_bytes : (w : ℕ) → crc_bytes 8 w ≡ to_be_bytes w64 w
unfolding crc_bytes
eight_bytes w =
    let a2 : w / 256 / 256 ≡ w / 256 ^ 2 = omega arith in
    let a3 : w / 256 ^ 2 / 256 ≡ w / 256 ^ 3 = omega arith in
    let a4 : w / 256 ^ 3 / 256 ≡ w / 256 ^ 4 = omega arith in
    let a5 : w / 256 ^ 4 / 256 ≡ w / 256 ^ 5 = omega arith in
    let a6 : w / 256 ^ 5 / 256 ≡ w / 256 ^ 6 = omega arith in
    let a7 : w / 256 ^ 6 / 256 ≡ w / 256 ^ 7 = omega arith in
    simp (a2, a3, a4, a5, a6, a7)

-- the chunks of a list, each at its place
pub chunk_at : {X : Type 0} → (n k i : ℕ) (l : List X) → i < k → get_or (first_chunks n k l) i [] ≡ take n (drop (i * n) l)
chunk_at n zero i l h = absurd (omega arith)
chunk_at n (suc k) zero l h = rw zero-mul
chunk_at n (suc k) (suc i) l h =
    let e : suc i * n ≡ n + i * n = suc-mul i n ∙ add_comm (i * n) n in
    rw e (chunk_at n k i (drop n l) (omega arith) ∙ ap (take n) (drop-drop (i * n) n l))

-- a part of bytes is bytes
take_fits : (n i : ℕ) (l : List ℕ) → ((k : ℕ) → get_or l k 0 < 256) → get_or (take n l) i 0 < 256
take_fits zero i l f = omega arith
take_fits (suc n) i [] f = omega arith
take_fits (suc n) zero (x ∷ l) f = f 0
take_fits (suc n) (suc i) (x ∷ l) f = take_fits n i l (λ k. f (suc k))

pub part_fits : (n i j : ℕ) (l : List ℕ) → ((k : ℕ) → get_or l k 0 < 256) → get_or (take n (drop i l)) j 0 < 256
part_fits n i j l f = take_fits n j (drop i l) (λ k. rw get_or-drop (f (i + k)))

-- n bytes more of a list
pub more : (n c : ℕ) (l : List ℕ) (i : ℕ) → crc_from c (drop i l) ≡ crc_from (crc_from c (take n (drop i l))) (drop (i + n) l)
more n c l i =
    ap (crc_from c) (sym (take-append-drop n (drop i l))) ∙ from-append c (take n (drop i l)) (drop n (drop i l))
    ∙ ap (crc_from (crc_from c (take n (drop i l)))) (drop-drop n i l)
