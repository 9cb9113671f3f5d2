-- Demand 3: from an accepted Initialise on nothing shows what was before it.
-- Assumes nothing.
use Prim.Native.Nat.{ℕ, ◌*◌}
use mathlib.Core.Path.{◌≡◌, refl, sym, ◌∙◌}
use mathlib.Core.Bool.{false, ◌&&◌}
use mathlib.Core.List.{List, [], ◌∷◌}
use lib.Dec.{eqb}
use lib.ListN.{length}
use borrow.Author.Tests.{eqb-true}
use Rattle.rows.specs.Rows.{Clear, none, past as clear}
use Rattle.rows.proofs.Bool.{not-false, and_left, and_right}
use Rattle.rows.proofs.Laws.{clear_head, clear_rest}
use Rattle.blocks.specs.declared.Store.TheVariants.{Priority, Ordinary}
use Rattle.blocks.specs.Stores.{store_sized}
use Rattle.packets.specs.declared.Fields.{Fields}
use Rattle.packets.specs.declared.Command.TheVariants.{Initialise}
use Rattle.packets.specs.Commands.{command_row}
use Rattle.packets.specs.Answers.{answer_of}
use Rattle.tables.specs.Tables.{starts, tables_sized}
use Rattle.tables.specs.Port.{start_words}
use Rattle.tables.proofs.Lengths.{starts_sized}
use Rattle.rules.specs.State.{fresh_pod, with_tables}
use Rattle.rules.specs.Obey.{initialised_pod, checks_of, done_by}
use Rattle.rules.specs.Refusals.{all_row, state_row}
use Rattle.rules.specs.Calls.{roomed, packet_rows, meant_body, reply_bytes, spoken_bytes, answered}
use Rattle.rules.specs.World.{World, world, power, packet, answering, Stepped, step, rows_of, powered}
use Rattle.rules.specs.Pairs.{Accepts, past_of}
use Rattle.rules.specs.Demands.{NoTrace, blank, AsFromPower, NoTracePast}
use Rattle.rules.proofs.Inside.{in_pod, fresh_in}
use Rattle.rules.proofs.Happens.{Happens, by_rows, by_power, happens}
use Rattle.rules.proofs.Accepted.{accepted, obeys}
use Rattle.rules.proofs.WordsAlike.{none_came}
use Rattle.rules.proofs.Twins.{emptied, Same, twin, same-run}

-- what an accepted Initialise leaves: a function of its fields, but for what lies in the stores and the load
abbrev pub begun : Fields → List ℕ → World → Stepped
begun f room w =
    record {
      told = answering room (answer_of (command_row (Initialise f)).code 0x01 (0x7E ∷ []));
      world = world (initialised_pod f) (with_tables starts w.lent);
    }

pub record Begun (f : Fields) (b room : List ℕ) (w : World) : Type 0 where
  pub is : step w (packet b room) ≡ begun f room w
  -- the stores have their sizes
  pub priority : length w.lent.priority ≡ 16 * 256
  pub ordinary : length w.lent.ordinary ≡ 128 * 256
  pub load : length w.lent.load ≡ 64

pub begins : (f : Fields) (b room : List ℕ) (w : World) → Accepts f b room w → Begun f b room w
unfolding rows_of store_sized done_by answered spoken_bytes reply_bytes meant_body
begins f b room w a =
    let x = accepted (Initialise f) b room w a.asks a.accepted in
    let m = w.lent in
    let sizes = not-false (clear_head (clear_rest x.rows)) in
    let p = eqb (length m.priority) (16 * 256) in
    let o = eqb (length m.ordinary) (128 * 256) in
    let t = tables_sized m.tables in
    record {
      is = x.is;
      priority = eqb-true _ _ (and_left p (o && t) sizes);
      ordinary = eqb-true _ _ (and_left o t (and_right p (o && t) sizes));
      load = a.load;
    }

-- the same Initialise, accepted in two worlds, tells the same and makes them twins
begun_twins : (f : Fields) (b room : List ℕ) (v w : World) → Begun f b room v → Begun f b room w
    → Same (step v (packet b room)) (step w (packet b room))
unfolding initialised_pod fresh_pod start_words
begun_twins f b room v w x y =
    rw (x.is, y.is)
    (record {
      points = refl;
      twins = twin (initialised_pod f) (with_tables starts v.lent) w.lent
          (record {
            priority = emptied Priority (x.priority ∙ sym y.priority);
            ordinary = emptied Ordinary (x.ordinary ∙ sym y.ordinary);
            load = none_came 0 refl (x.load ∙ sym y.load);
          });
    })

-- "From that Initialise's answer on, their answers and table words are equal"
pub no_trace : NoTrace
no_trace f b room v w kept x y cs =
    same-run v w (packet b room) cs (begun_twins f b room v w (begins f b room v x) (begins f b room w y))

-- a pod just powered is fresh, with what is lent as it came
just_by : {s : Stepped} → Happens (world fresh_pod blank) power s → s.world ≡ world fresh_pod blank
just_by (by_rows c n f) = refl
just_by (by_power k) = refl

-- so it accepts what any world accepts
just_begins : (f : Fields) (b room : List ℕ) (w : World) → Accepts f b room w → Begun f b room (world fresh_pod blank)
unfolding rows_of checks_of store_sized done_by answered spoken_bytes reply_bytes meant_body
just_begins f b room w a =
    let x = accepted (Initialise f) b room w a.asks a.accepted in
    let sized : (all_row blank).holds ≡ false = rw starts_sized in
    let sound : (state_row fresh_pod).holds ≡ false = rw (in_pod fresh_in) in
    let rows : Clear (packet_rows (roomed room blank) fresh_pod) = clear (clear_head x.rows) (clear sized (clear sound none)) in
    record {
      is = obeys (Initialise f) b room (world fresh_pod blank) a.asks rows x.checks;
      priority = refl;
      ordinary = refl;
      load = refl;
    }

-- "and are those of demand 2"
pub as_from_power : AsFromPower
as_from_power f b room w kept x cs =
    rw (just_by (happens (world fresh_pod blank) power))
    (same-run w (world fresh_pod blank) (packet b room) cs (begun_twins f b room w (world fresh_pod blank) (begins f b room w x) (just_begins f b room w x)))

-- "Take two pods with any two pasts since power-on"
pub no_trace_past : NoTracePast
no_trace_past f b room l m ds es kept x y cs = no_trace f b room (past_of (powered l) ds) (past_of (powered m) es) kept x y cs
