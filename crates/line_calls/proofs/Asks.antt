-- What a line asks, of the first bytes or words of those that lie in lent memory.
-- Assumes nothing.
use Prim.Native.Nat.{ℕ}
use mathlib.Core.Path.{◌≡◌, sym, ap, ◌∙◌}
use mathlib.Core.List.{List}
use lib.ListN.{take}
use Rattle.blocks.specs.declared.Store.{Store}
use Rattle.lines.specs.declared.Line.{Line}
use Rattle.lines.specs.declared.Line.TheVariants as line
use Rattle.lines.specs.Asked.{packet, put, samples, ask_out}
use Rattle.line_calls.specs.Calls.{heard}

pub heard_as : (bs ws : List ℕ) {l k : Line} → l ≡ k → heard l bs ws ≡ heard k bs ws
heard_as bs ws e = ap (λ (l : Line). heard l bs ws) e

pub packet_asked : (bs ws : List ℕ) {l : Line} {n : ℕ} {b : List ℕ} → l ≡ line.Packet n → b ≡ take n bs → heard l bs ws ≡ packet b
unfolding heard
packet_asked bs ws e f = heard_as bs ws e ∙ ap packet (sym f)

pub out_asked : (bs ws : List ℕ) {l : Line} {n : ℕ} {b : List ℕ} → l ≡ line.Out n → b ≡ take n bs → heard l bs ws ≡ ask_out b
unfolding heard
out_asked bs ws e f = heard_as bs ws e ∙ ap ask_out (sym f)

pub put_asked : (bs ws : List ℕ) {l : Line} {s t : Store} {n : ℕ} {b : List ℕ} → l ≡ line.Put s n → s ≡ t → b ≡ take n bs
    → heard l bs ws ≡ put t b
unfolding heard
put_asked bs ws {t = t} {n = n} e same f = heard_as bs ws e ∙ ap (λ (s : Store). put s (take n bs)) same ∙ ap (put t) (sym f)

pub samples_asked : (bs ws : List ℕ) {l : Line} {k n : ℕ} {x : List ℕ} → l ≡ line.Samples k n → x ≡ take n ws → heard l bs ws ≡ samples k x
unfolding heard
samples_asked bs ws {k = k} e f = heard_as bs ws e ∙ ap (samples k) (sym f)
