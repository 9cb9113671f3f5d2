-- Acknowledgements, by computation. Request No. 2: "From now 0x90 closes any open exchange as that exchange's own code would."
-- Assumes nothing.
use Rattle.std.specs.Prelude.{ℕ, ◌≡◌, Bool, true, false, List, [], ◌∷◌, ◌++◌, map, replicate}
use Rattle.rows.specs.Rows.{gave, out}
use Rattle.blocks.specs.declared.Store.{Store}
use Rattle.blocks.specs.declared.Store.TheVariants.{Priority, Ordinary}
use Rattle.packets.specs.declared.Parsed.TheVariants.{Acknowledgement}
use Rattle.rules.specs.declared.Exchange.{Exchange}
use Rattle.rules.specs.declared.Exchange.TheVariants.{Closed, Status, Read, Receive}
use Rattle.rules.specs.declared.Pod.{Pod}
use Rattle.rules.specs.State.{Lent, with_ring, with_fields, with_remaining}
use Rattle.rules.specs.Calls.{silent, packet_heard}
use Rattle.rules.specs.Refusals.{done}
use Rattle.rules.specs.Families.{deadline}
use Rattle.rules.specs.World.{lone, told}
use Rattle.examples.specs.Shown.{just_initialised}
use Rattle.examples.specs.Computed.{TalkTurn, asks, brings}
use Rattle.port_examples.specs.Packets.{Talks, fails, update, Stock, stocked}

-- ---- as the aircraft sees it

-- 0x90, of the 01 form and of the 09 form
abbrev pub taken90 : TalkTurn
taken90 = asks (0x90 ∷ 0x01 ∷ 0x7E ∷ 0x18 ∷ 0xCD ∷ []) []

abbrev pub failed90 : TalkTurn
failed90 = asks (0x90 ∷ 0x09 ∷ 0x7E ∷ 0x91 ∷ 0x64 ∷ []) []

-- the oldest block of each store is sent
abbrev pub sends_priority : TalkTurn
sends_priority = asks (0x95 ∷ 0x01 ∷ 0xEA ∷ 0x30 ∷ []) (0x95 ∷ 0x01 ∷ replicate 256 0x11 ++ (0xE0 ∷ 0xFC ∷ []))

abbrev pub sends_ordinary : TalkTurn
sends_ordinary = asks (0x96 ∷ 0x01 ∷ 0xBF ∷ 0x63 ∷ []) (0x96 ∷ 0x01 ∷ replicate 256 0x44 ++ (0x09 ∷ 0xA4 ∷ []))

-- after an Update with priority remaining 1 and memory remaining 4
abbrev pub acknowledged90 : List TalkTurn
acknowledged90 =
    update
    ∷ brings Priority 0x11
    ∷ brings Priority 0x22
    ∷ brings Ordinary 0x44
    ∷ brings Ordinary 0x55
    -- document 002's worked exchange, a Status so acknowledged: no block goes
    ∷ asks (0x91 ∷ 0x01 ∷ 0x26 ∷ 0xF4 ∷ [])
    (0x91 ∷ 0x01 ∷ 0x02 ∷ 0xAB ∷ 0xCD ∷ 0x00 ∷ 0x02 ∷ 0x00 ∷ 0x00 ∷ 0x00 ∷ 0x02 ∷ 0x00 ∷ 0x01 ∷ 0x02 ∷ 0x03 ∷ 0x06 ∷ 0x07 ∷ 0x00 ∷ 0x00 ∷ 0x00 ∷ 0x76 ∷ 0xD9 ∷ [])
    ∷ taken90
    -- the 09 form closes and keeps, so does the deadline: the 01 form behind it finds nothing open
    ∷ sends_priority
    ∷ failed90
    ∷ taken90
    ∷ sends_priority
    ∷ record { call = lone deadline; told = told (gave done) [] }
    ∷ taken90
    -- the 01 form drops the block and takes one from the remaining; behind an error answer, too, nothing is open
    ∷ sends_priority
    ∷ taken90
    ∷ asks (0x95 ∷ 0x01 ∷ 0xEA ∷ 0x30 ∷ []) (fails 0x95 0x3B 0x62 0xF5)
    ∷ taken90
    -- any other code closes and keeps
    ∷ sends_ordinary
    ∷ asks (0x95 ∷ 0x01 ∷ 0x7E ∷ 0xF3 ∷ 0x3D ∷ []) []
    ∷ taken90
    -- a 25-byte 0x90 is an Initialise, here of mode 126
    ∷ sends_ordinary
    ∷ asks
    (0x90 ∷ 0x01 ∷ 0x7E ∷ 0x00 ∷ 0x00 ∷ 0x00 ∷ 0x00 ∷ 0x00 ∷ 0x00 ∷ 0x00 ∷ 0x10 ∷ 0x00 ∷ 0x10 ∷ 0x00 ∷ 0x00 ∷ 0x00 ∷ 0x80 ∷ 0x00 ∷ 0x00 ∷ 0x00 ∷ 0x80 ∷ 0x03 ∷ 0xE8 ∷ 0x79 ∷ 0x36 ∷ [])
    (fails 0x90 0x39 0xA9 0x47)
    ∷ taken90
    -- one block is dropped and no more; then the last one
    ∷ sends_ordinary
    ∷ taken90
    ∷ taken90
    ∷ asks (0x96 ∷ 0x01 ∷ 0xBF ∷ 0x63 ∷ []) (0x96 ∷ 0x01 ∷ replicate 256 0x55 ++ (0x0B ∷ 0x7D ∷ []))
    ∷ taken90
    ∷ asks (0x91 ∷ 0x01 ∷ 0x26 ∷ 0xF4 ∷ [])
    (0x91 ∷ 0x01 ∷ 0x02 ∷ 0xAB ∷ 0xCD ∷ 0x00 ∷ 0x01 ∷ 0x00 ∷ 0x00 ∷ 0x00 ∷ 0x00 ∷ 0x00 ∷ 0x01 ∷ 0x02 ∷ 0x03 ∷ 0x06 ∷ 0x07 ∷ 0x00 ∷ 0x00 ∷ 0x00 ∷ 0x25 ∷ 0xF0 ∷ [])
    ∷ []

-- ---- each first byte that the form allows, of each form, on each exchange

abbrev pub firsts : List ℕ
firsts = 0x90 ∷ 0x91 ∷ 0x92 ∷ 0x93 ∷ 0x94 ∷ 0x95 ∷ 0x96 ∷ 0x97 ∷ 0x98 ∷ 0x99 ∷ 0x9A ∷ 0x9B ∷ 0x9C ∷ 0x9D ∷ 0x9E ∷ 0x9F ∷ []

-- the exchange is closed, and nothing else changes ..
abbrev pub kept : Stock → Pod
kept g = stocked Closed g

-- .. or the oldest block of a store is dropped, and its remaining falls by 1
abbrev pub gone : Store → Stock → Pod
gone s g = with_ring s (record { oldest = 0; waiting = g.waiting }) (with_fields (with_remaining s g.remaining (kept g).fields) (kept g))

-- an acknowledgement gets no answer, touches nothing that is lent, and leaves these, first byte by first byte
abbrev pub Leaves : Exchange → Bool → Lent → Stock → List Pod → Type 0
Leaves x one l g ps = map (λ (first : ℕ). packet_heard (Acknowledgement first one) l (stocked x g)) firsts ≡ map (λ (p : Pod). out silent p l) ps

-- all of them keep the blocks
abbrev pub AllKeep : Exchange → Bool → Lent → Stock → Type 0
AllKeep x one l g = Leaves x one l g (replicate 16 (kept g))

pub record Acknowledgements : Type 0 where
  pub talk : Talks just_initialised acknowledged90
  -- of either form, where no block was sent
  pub others : (one : Bool) (l : Lent) (g : Stock) → AllKeep Closed one l g × AllKeep Status one l g × AllKeep Read one l g
  -- of the 09 form; of the 01 form only 0x90 and 0x95, and 0x90 and 0x96, drop one
  pub failed : (s : Store) (l : Lent) (g : Stock) → AllKeep (Receive s) false l g
  pub priority : (l : Lent) (g : Stock) → Leaves (Receive Priority) true l g (gone Priority g ∷ replicate 4 (kept g) ++ (gone Priority g ∷ replicate 10 (kept g)))
  pub ordinary : (l : Lent) (g : Stock) → Leaves (Receive Ordinary) true l g (gone Ordinary g ∷ replicate 5 (kept g) ++ (gone Ordinary g ∷ replicate 9 (kept g)))
