-- Two worlds: what may differ between them, and what pasts they may have.
-- Assumes nothing.
use Rattle.std.specs.Prelude.{ℕ, ◌≡◌, Bool, true, false, List, [], ◌∷◌, length}
use Rattle.packets.specs.declared.Fields.{Fields}
use Rattle.packets.specs.declared.Parsed.TheVariants.{Asked}
use Rattle.packets.specs.declared.Command.TheVariants.{Initialise, Shutdown}
use Rattle.packets.specs.Reading.{packet_read}
use Rattle.tables.specs.declared.Words.{Words}
use Rattle.pipe.specs.declared.Pipe.{Pipe}
use Rattle.rules.specs.declared.Exchange.{Exchange}
use Rattle.rules.specs.State.{Lent, sound_pod}
use Rattle.rules.specs.World.{World, Call, packet, step, next}
use Rattle.rules.specs.History.{succeeded}

-- the packet is an Initialise with these fields, and this world accepts it
pub record Accepts (f : Fields) (b room : List ℕ) (w : World) : Type 0 where
  pub asks : packet_read b ≡ Asked (Initialise f)
  pub accepted : succeeded (step w (packet b room)).told ≡ true
  -- the words of a load are an array of 64
  pub load : length w.lent.load ≡ 64

-- the packet is a Shutdown, and this world accepts it
pub record ShutsDown (b room : List ℕ) (w : World) : Type 0 where
  pub asks : packet_read b ≡ Asked Shutdown
  pub accepted : succeeded (step w (packet b room)).told ≡ true

-- what outlives an accepted Initialise: nothing
abbrev pub Kept : Type 0
Kept = Unit {0}

abbrev pub kept_in : World → Kept
kept_in w = tt

-- the sizes of all that is lent
pub record SizesAlike : Type 0 where
  pub priority : ℕ
  pub ordinary : ℕ
  pub five : ℕ
  pub six : ℕ
  pub seven : ℕ
  pub load : ℕ

abbrev pub sizes_in : Lent → SizesAlike
sizes_in l =
    record {
      priority = length l.priority;
      ordinary = length l.ordinary;
      five = length l.tables.five;
      six = length l.tables.six;
      seven = length l.tables.seven;
      load = length l.load;
    }

-- all of a world but "parameters, table words and survey blocks" (the words of a load are table words; marks and the list of missing
-- ids go with the parameters)
pub record Seen : Type 0 where
  pub initialised : Bool
  pub fields : Fields
  pub exchange : Exchange
  pub words : Words
  pub pipe : Pipe
  pub sizes : SizesAlike

abbrev pub seen_in : World → Seen
seen_in w =
    record {
      initialised = w.pod.initialised;
      fields = w.pod.fields;
      exchange = w.pod.exchange;
      words = w.pod.words;
      pipe = w.pod.pipe;
      sizes = sizes_in w.lent;
    }

-- "two such pods that differ only in" those, both within their bounds (else row 3 refuses every call of the one) and not initialised
pub record Asleep (v w : World) : Type 0 where
  pub seen : seen_in v ≡ seen_in w
  pub first : sound_pod v.pod ≡ true
  pub second : sound_pod w.pod ≡ true
  pub off : v.pod.initialised ≡ false

-- "any two pasts since power-on, damage and refusals included": a call, or memory overwritten by anything
pub data Moment : Type 0 where
  ask : Call → Moment
  overwritten : World → Moment

unfoldable pub past_of : World → List Moment → World
past_of w [] = w
past_of w (ask c ∷ es) = past_of (next w c) es
past_of w (overwritten v ∷ es) = past_of v es
