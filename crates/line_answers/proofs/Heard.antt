-- What is read of a text is heard again from the memory in which its bytes and words lie.
-- Assumes nothing.
use Prim.Native.Nat.{ℕ, ◌*◌, ◌≤◌}
use native.Mathlib.Omega.{arith}
use mathlib.Core.Path.{◌≡◌, refl, ap, ◌∙◌}
use mathlib.Core.Bool.{◌||◌}
use mathlib.Core.List.{List}
use lib.Dec.{eqb}
use Rattle.std.proofs.Common.{Option, Some, None}
use lib.ListN.{length, take, drop, get_or, length-drop}
use lib.Seq.{sets}
use Rattle.rows.proofs.Bool.{by-test}
use Rattle.blocks.specs.declared.Store.{Store}
use Rattle.blocks.specs.declared.Store.TheVariants.{Priority, Ordinary}
use Rattle.items.specs.Text.{ItemsRead, bytes_in, words_in}
use Rattle.lines.specs.Letters.{letter_p, letter_d, letter_b, letter_c, letter_w, letter_r, letter_s, letter_a, letter_i, letter_t, letter_o, letter_k, letter_z, small_p, small_o}
use Rattle.lines.specs.Asked.{Asked, Asking, packet, put, samples, ask_out, other, wholly, sampling, is_put, one_byte, packet_in, out_in, put_in, samples_in, bare_asked, word_asked, byte_asked, short_asked, line_of, say_line}
use Rattle.lines.proofs.Stored.{stored, bytes_most, words-most}
use Rattle.lines.proofs.Unread.{sampling_bytes}
use Rattle.line_calls.specs.Calls.{heard, heard_line}

-- a run of bytes, whole or not, whatever it is asked for
bytes-heard : (f : List ℕ → Asked) → ((vs bs ws : List ℕ) → heard_line (say_line (f vs)) bs ws ≡ f (take (length vs) bs))
    → (r : ItemsRead ℕ) (bs ws : List ℕ) → length r.values ≤ length bs
    → heard_line (say_line (wholly r f)) (sets bs 0 r.values) ws ≡ wholly r f
unfolding heard say_line
bytes-heard f says r bs ws h =
    by-test (λ (a : Asked). heard_line (say_line a) (sets bs 0 r.values) ws ≡ a) r.whole
    (λ _. says r.values (sets bs 0 r.values) ws ∙ ap f (stored r.values bs h)) (λ _. refl)

packet_says : (vs bs ws : List ℕ) → heard_line (say_line (packet vs)) bs ws ≡ packet (take (length vs) bs)
unfolding heard say_line
packet_says vs bs ws = refl

put_says : (s : Store) (vs bs ws : List ℕ) → heard_line (say_line (put s vs)) bs ws ≡ put s (take (length vs) bs)
unfolding heard say_line
put_says s vs bs ws = refl

out_says : (vs bs ws : List ℕ) → heard_line (say_line (ask_out vs)) bs ws ≡ ask_out (take (length vs) bs)
unfolding heard say_line
out_says vs bs ws = refl

sampling-heard : (k : Option ℕ) (r : ItemsRead ℕ) (bs ws : List ℕ) → length r.values ≤ length ws
    → heard_line (say_line (sampling k r).asked) bs (sets ws 0 (sampling k r).words) ≡ (sampling k r).asked
unfolding heard say_line
sampling-heard None r bs ws h = refl
sampling-heard (Some k) r bs ws h =
    by-test (λ (a : Asked). heard_line (say_line a) bs (sets ws 0 r.values) ≡ a) r.whole (λ _. ap (samples k) (stored r.values ws h)) (λ _. refl)

-- the lines that lie in no memory
module _ (bs ws : List ℕ) where
  abbrev Again : Asked → Type 0
  Again a = heard_line (say_line a) bs ws ≡ a

  word_heard_lem : (c : ℕ) (w : Option ℕ) → Again (word_asked c w)
  unfolding heard say_line
  word_heard_lem c None = refl
  word_heard_lem c (Some w) = by-test Again (eqb c letter_c) (λ _. refl) (λ _. refl)

  byte_heard : (b : Option ℕ) → Again (byte_asked b)
  unfolding heard say_line
  byte_heard None = refl
  byte_heard (Some b) = refl

  bare-heard : (c : ℕ) → Again (bare_asked c)
  unfolding heard say_line bare_asked
  bare-heard c =
      by-test Again (eqb c letter_d) (λ _. refl)
      (λ _. by-test Again (eqb c letter_k) (λ _. refl)
      (λ _. by-test Again (eqb c letter_r) (λ _. refl)
      (λ _. by-test Again (eqb c letter_s) (λ _. refl)
      (λ _. by-test Again (eqb c letter_t) (λ _. refl)
      (λ _. by-test Again (eqb c letter_z) (λ _. refl) (λ _. refl))))))

  other-heard : Again other
  unfolding heard say_line
  other-heard = refl

  short_heard : (c : ℕ) (t : List ℕ) → Again (short_asked c t)
  unfolding short_asked
  short_heard c t =
      by-test Again (eqb c letter_c || eqb c letter_w) (λ _. word_heard_lem c _)
      (λ _. by-test Again (eqb c letter_i) (λ _. byte_heard _)
      (λ _. by-test Again (eqb (length t) 0) (λ _. bare-heard c) (λ _. other-heard)))

-- a text of so many characters, over memory that is long enough
module _ (t bs : List ℕ) (hb : length t ≤ 3 * length bs) where
  fits-bytes : (k : ℕ) → length (bytes_in (drop k t)).values ≤ length bs
  fits-bytes k = omega (arith, bytes_most (drop k t), length-drop k t)

  -- a packet's line: no word of it is read
  pub packet_heard_lem : (ws : List ℕ) → heard_line (say_line (packet_in t).asked) (sets bs 0 (packet_in t).bytes) ws ≡ (packet_in t).asked
  unfolding packet_in
  packet_heard_lem ws =
      by-test (λ (k : Asking). heard_line (say_line k.asked) (sets bs 0 k.bytes) ws ≡ k.asked) (eqb (get_or t 0 0) letter_p)
      (λ _. bytes-heard packet packet_says (bytes_in (drop 1 t)) bs ws (fits-bytes 1)) (λ _. other-heard bs ws)

  module _ (ws : List ℕ) (hw : length t ≤ 5 * length ws) where
    abbrev Heard : Asking → Type 0
    Heard k = heard_line (say_line k.asked) (sets bs 0 k.bytes) (sets ws 0 k.words) ≡ k.asked

    put_heard : Heard (put_in t)
    unfolding put_in
    put_heard =
        by-test Heard (is_put small_p t) (λ _. bytes-heard (put Priority) (put_says Priority) (bytes_in (drop 3 t)) bs ws (fits-bytes 3))
        (λ _. by-test Heard (is_put small_o t) (λ _. bytes-heard (put Ordinary) (put_says Ordinary) (bytes_in (drop 3 t)) bs ws (fits-bytes 3)) (λ _. other-heard bs ws))

    samples_heard : Heard (samples_in t)
    unfolding samples_in
    samples_heard =
        let k = one_byte (take 3 (drop 1 t)) in
        let r = words_in (drop 4 t) in
        ap (λ (x : List ℕ). heard_line (say_line (sampling k r).asked) x (sets ws 0 (sampling k r).words)) (ap (sets bs 0) (sampling_bytes k r))
        ∙ sampling-heard k r bs ws (omega (arith, words-most (drop 4 t), length-drop 4 t))

    pub line-heard : Heard (line_of t)
    unfolding line_of out_in
    line-heard =
        by-test Heard (eqb (get_or t 0 0) letter_p) (λ _. packet_heard_lem (sets ws 0 (packet_in t).words))
        (λ _. by-test Heard (eqb (get_or t 0 0) letter_b) (λ _. put_heard)
        (λ _. by-test Heard (eqb (get_or t 0 0) letter_o) (λ _. bytes-heard ask_out out_says (bytes_in (drop 1 t)) bs ws (fits-bytes 1))
        (λ _. by-test Heard (eqb (get_or t 0 0) letter_a) (λ _. samples_heard) (λ _. short_heard bs ws (get_or t 0 0) (drop 1 t)))))
