-- What is added is written, were the run the one that was lent.
-- Assumes nothing.
use Rattle.std.proofs.Common.{◌≡◌, ℕ, List, length, refl, ap, ◌∙◌}
use lib.Seq.{length-sets}
use Rattle.items.specs.declared.output.Output.{Output}
use Rattle.items.specs.Output.{Written}
use Rattle.decimals.specs.Added.{Added}

-- an output, its run under the name of another's
abbrev pub under : Output → Output → Output
under a b = record { out = record { ref_ptr = b.out.ref_ptr; ghost_name = a.out.ghost_name; now = b.out.now }; at = b.at }

pub added : {m : ℕ} {t : List ℕ} {a b : Output} → Written t m a b → Added t m a b
added w = record { characters = w.characters; place = w.place; short = w.short }

-- the run is as long
pub as_long : {m : ℕ} {t : List ℕ} {a b : Output} → Added t m a b → length b.out.now ≡ length a.out.now
as_long {t = t} {a = a} w = ap length w.characters ∙ length-sets a.out.now a.at t

pub as_written : {m : ℕ} {t : List ℕ} {b c : Output} (a : Output) → Added t m b c → Written t m (under a b) (under a c)
as_written a w =
    record {
      characters = w.characters;
      place = w.place;
      short = w.short;
      room = as_long w;
      lent = refl;
    }
