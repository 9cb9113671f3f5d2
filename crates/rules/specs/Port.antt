-- The table port after any call: which calls touch it, and what a table word leaves of it; and all of it by the calls and what they
-- told alone.
-- Assumes nothing.
use Rattle.std.specs.Prelude.{ℕ, Bool, false, List}
use Rattle.tables.specs.declared.Words.{Words}
use Rattle.tables.specs.Port.{Desk, start_words, close_of}
use Rattle.rules.specs.Families.{WordCall}
use Rattle.rules.specs.Heard.{Heard, word_heard}
use Rattle.rules.specs.World.{World}
use Rattle.rules.specs.History.{Event, nothing, begins, sleeps, updates, writes_parameter, opens_exchange, closes_exchange, hears_acknowledgement, puts, words, touches}

-- all of the port: Initialise and power leave it as from power, Shutdown "closes an open transfer", a table word does what it does, and
-- no other call touches it
unfoldable pub port_by : Event → Bool → Words → Desk → Words
port_by nothing on w d = w
port_by (begins a f) on w d = start_words
port_by sleeps on w d = close_of w
port_by (updates f) on w d = w
port_by (writes_parameter id v) on w d = w
port_by (opens_exchange x) on w d = w
port_by closes_exchange on w d = w
port_by (hears_acknowledgement first one) on w d = w
port_by (puts s b) on w d = w
port_by (words c) on w d = (word_heard c on w d.load).words
port_by (touches t l) on w d = w

-- what a table word leaves in a world
abbrev pub heard_in : World → WordCall → Heard
heard_in w c = word_heard c w.pod.initialised w.pod.words w.lent.load

-- ---- by a history

-- whether the pod is initialised, the port, and the words of a load so far
pub record Ported : Type 0 where
  pub awake : Bool
  pub words : Words
  pub load : List ℕ

abbrev pub ported : Bool → Words → List ℕ → Ported
ported a w l = record { awake = a; words = w; load = l }

unfoldable pub ported_by : Event → Ported → Ported
ported_by nothing p = p
ported_by (begins a f) p = ported a start_words p.load
ported_by sleeps p = ported false (close_of p.words) p.load
ported_by (updates f) p = p
ported_by (writes_parameter id v) p = p
ported_by (opens_exchange x) p = p
ported_by closes_exchange p = p
ported_by (hears_acknowledgement first one) p = p
ported_by (puts s b) p = p
ported_by (words c) p = let h = word_heard c p.awake p.words p.load in ported p.awake h.words h.load
ported_by (touches t l) p = p
