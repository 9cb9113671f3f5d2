-- Of a line with bytes no word is read, and of one with words no byte.
-- Assumes nothing.
use Rattle.std.proofs.Common.{◌≡◌, ℕ, List, [], take, drop, get_or, refl, Option, Some, None}
use lib.Dec.{eqb}
use Rattle.rows.proofs.Bool.{split}
use Rattle.lines.specs.Asked.{one_byte, is_put, packet_in, put_in, samples_in, sampling}
use Rattle.items.specs.Text.{ItemsRead, words_in}

pub packet_words : (t : List ℕ) → (packet_in t).words ≡ []
unfolding packet_in
packet_words t = split (eqb (get_or t 0 0) 80) (λ e. rw e) (λ e. rw e)

pub put_words : (t : List ℕ) → (put_in t).words ≡ []
unfolding put_in
put_words t = split (is_put 112 t) (λ e. rw e) (λ e. split (is_put 111 t) (λ d. rw (e, d)) (λ d. rw (e, d)))

pub sampling_bytes : (check : Option ℕ) (r : ItemsRead ℕ) → (sampling check r).bytes ≡ []
sampling_bytes None r = refl
sampling_bytes (Some k) r = refl

pub samples_bytes : (t : List ℕ) → (samples_in t).bytes ≡ []
unfolding samples_in
samples_bytes t = sampling_bytes (one_byte (take 3 (drop 1 t))) (words_in (drop 4 t))
