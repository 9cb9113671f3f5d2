-- Each line of the table, written and read again; and a packet's line is nothing else.
-- Assumes nothing.
use Prim.Native.Nat.{ℕ, ◌<◌}
use native.Mathlib.Omega.{arith}
use mathlib.Core.Path.{◌≡◌, refl, ap, ◌∙◌}
use mathlib.Core.List.{List, [], ◌∷◌, ◌++◌}
use lib.Dec.{eqb}
use borrow.Author.Tests.{eqb-true}
use Rattle.hexes.specs.Digits.{byte_digits, word_digits}
use Rattle.blocks.specs.declared.Store.TheVariants.{Priority, Ordinary}
use Rattle.items.specs.Text.{spell, bytes_in}
use Rattle.lines.specs.Asked.{packet, deadline, put, command, data_in, data_out, status, samples, ask_byte, ask_timeout, ask_out, ask_taken, power, other, asking, one_byte, one_word, packet_in, out_in, put_in, samples_in, bare_asked, short_asked, line_of}
use Rattle.rows.proofs.Bool.{split}
use Rattle.items.proofs.Laws.{Under, spell_words, byte_back, word_back, bytes_back, words_back, bytes-only}

other_packet_lem : (bs : List ℕ) → other ≡ packet bs → ⊥
other_packet_lem bs e = let z : ◌≡◌ {A = ℕ} 0 1 = cc in omega arith

packet_once : (a b : List ℕ) → packet a ≡ packet b → a ≡ b
packet_once a b e = cc

-- `P` and bytes
pub packet_form : (bs : List ℕ) → Under 256 bs → line_of (80 ∷ spell bs) ≡ asking (packet bs) bs []
unfolding line_of packet_in
packet_form bs u = rw (bytes_back bs u)

-- and a line that is read as a packet is `P` and its bytes: no other text is one
pub packet_only : (t bs : List ℕ) → (packet_in t).asked ≡ packet bs → t ≡ 80 ∷ spell bs
unfolding packet_in
packet_only [] bs w = absurd (other_packet_lem bs w)
packet_only (c ∷ rest) bs w =
    split (eqb c 80)
    (λ e.
    split (bytes_in rest).whole
    (λ h.
    let same : (bytes_in rest).values ≡ bs = packet_once (bytes_in rest).values bs (rw (e, h) at w) in
    ap (λ (x : ℕ). x ∷ rest) (eqb-true c 80 e) ∙ ap (λ (l : List ℕ). 80 ∷ l) (bytes-only rest h ∙ ap spell same))
    (λ h. absurd (other_packet_lem bs (rw (e, h) at w))))
    (λ e. absurd (other_packet_lem bs (rw e at w)))

-- `B p` and `B o` and bytes
pub priority_form : (bs : List ℕ) → Under 256 bs → line_of (66 ∷ 32 ∷ 112 ∷ spell bs) ≡ asking (put Priority bs) bs []
unfolding line_of put_in
priority_form bs u = rw (bytes_back bs u)

pub ordinary_form : (bs : List ℕ) → Under 256 bs → line_of (66 ∷ 32 ∷ 111 ∷ spell bs) ≡ asking (put Ordinary bs) bs []
unfolding line_of put_in
ordinary_form bs u = rw (bytes_back bs u)

-- `O` and bytes
pub out-form : (bs : List ℕ) → Under 256 bs → line_of (79 ∷ spell bs) ≡ asking (ask_out bs) bs []
unfolding line_of out_in
out-form bs u = rw (bytes_back bs u)

-- `C` and a word, `W` and a word
pub command-form : (w : ℕ) → w < 65536 → line_of (67 ∷ 32 ∷ word_digits w) ≡ asking (command w) [] []
unfolding line_of short_asked one_word
command-form w h = rw (word_back w h)

pub data_form : (w : ℕ) → w < 65536 → line_of (87 ∷ 32 ∷ word_digits w) ≡ asking (data_in w) [] []
unfolding line_of short_asked one_word
data_form w h = rw (word_back w h)

-- `A`, a byte and words
pub samples_form : (n : ℕ) (ws : List ℕ) → n < 256 → Under 65536 ws
    → line_of (65 ∷ 32 ∷ (byte_digits n ++ spell_words ws)) ≡ asking (samples n ws) [] ws
unfolding line_of samples_in one_byte
samples_form n ws h u = rw (byte_back n h, words_back ws u)

-- `I` and a byte
pub byte_form : (b : ℕ) → b < 256 → line_of (73 ∷ 32 ∷ byte_digits b) ≡ asking (ask_byte b) [] []
unfolding line_of short_asked one_byte
byte_form b h = rw (byte_back b h)

-- `D`, `K`, `R`, `S`, `T`, `Z`
pub deadline_form : line_of (68 ∷ []) ≡ asking deadline [] []
unfolding line_of short_asked bare_asked
deadline_form = refl

pub taken-form : line_of (75 ∷ []) ≡ asking ask_taken [] []
unfolding line_of short_asked bare_asked
taken-form = refl

pub read-form : line_of (82 ∷ []) ≡ asking data_out [] []
unfolding line_of short_asked bare_asked
read-form = refl

pub status_form : line_of (83 ∷ []) ≡ asking status [] []
unfolding line_of short_asked bare_asked
status_form = refl

pub timeout_form : line_of (84 ∷ []) ≡ asking ask_timeout [] []
unfolding line_of short_asked bare_asked
timeout_form = refl

pub power_form : line_of (90 ∷ []) ≡ asking power [] []
unfolding line_of short_asked bare_asked
power_form = refl
