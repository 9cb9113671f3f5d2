-- The words of the lines, put together from the runs that are written.
-- Assumes nothing.
use Prim.Native.Nat.{ℕ, ◌≤◌}
use native.Mathlib.Omega.{arith}
use mathlib.Core.Path.{◌≡◌, refl, sym, ap}
use mathlib.Core.List.{List, [], ◌∷◌, ◌++◌}
use lib.IntN.{ℤ, pos}
use lib.ListN.{length, drop, length-take}
use Rattle.rows.specs.Rows.{gave}
use Rattle.items.specs.Text.{spell}
use Rattle.items.specs.declared.output.Output.{Output}
use Rattle.items.specs.Output.{Written}
use Rattle.decimals.specs.Printing.{spelled, naturals}
use Rattle.decimals.proofs.Spell.{spelled-both}
use Rattle.packets.specs.declared.Report.{Report}
use Rattle.airframe.specs.Reading.{failed, status, value, block, block_in, ids_in}
use Rattle.aircraft_answers.specs.Words.{characters, meant_text}

-- an answer shows at most eight ids, and brings at most a block
pub few_ids : (a : List ℕ) → length (ids_in a) ≤ 8
unfolding ids_in
few_ids a = omega (arith, length-take 8 (drop 12 a))

pub one_block : (a : List ℕ) → length (block_in a) ≤ 256
unfolding block_in
one_block a = omega (arith, length-take 256 (drop 2 a))

-- nothing written
pub unwritten : (m : ℕ) (o : Output) → Written [] m o o
unwritten m o = record { characters = refl; place = omega arith; short = omega arith; room = refl; lent = refl }

pub error_text : (e : ℕ) → characters " error" ++ spell (e ∷ []) ≡ meant_text (gave (failed e))
unfolding meant_text
error_text e = refl

pub status_text : (r : Report) (q : ℕ)
    → characters " status" ++ (spelled (naturals (r.mode ∷ r.flags ∷ r.priority ∷ r.ordinary ∷ q ∷ [])) ++ spelled (naturals r.ids)) ≡ meant_text (gave (status r q))
unfolding meant_text
status_text r q =
    ap (λ (t : List ℕ). characters " status" ++ t) (sym (spelled-both (naturals (r.mode ∷ r.flags ∷ r.priority ∷ r.ordinary ∷ q ∷ [])) (naturals r.ids)))

pub value_text : (id : ℕ) (v : ℤ) → characters " value" ++ (spelled (pos id ∷ []) ++ spelled (v ∷ [])) ≡ meant_text (gave (value id v))
unfolding meant_text
value_text id v = ap (λ (t : List ℕ). characters " value" ++ t) (sym (spelled-both (pos id ∷ []) (v ∷ [])))

pub block_text : (b : List ℕ) → characters " data" ++ spell b ≡ meant_text (gave (block b))
unfolding meant_text
block_text b = refl
