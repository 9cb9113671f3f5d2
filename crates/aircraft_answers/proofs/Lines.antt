-- Lines that are written, and what they leave on its way.
-- Assumes nothing.
use Prim.Native.Nat.{ℕ, ◌≤◌}
use mathlib.Core.Path.{◌≡◌, refl, sym, ap, ap₂, ◌∙◌}
use mathlib.Core.Bool.{true, false}
use mathlib.Core.List.{List, [], ◌∷◌}
use lib.ListN.{take, get_or}
use Rattle.items.specs.Printed.{bytes_line, refused_line}
use Rattle.items.specs.declared.output.Output.{Output}
use Rattle.items.specs.Output.{Written}
use Rattle.items.proofs.Behind.{renamed}
use Rattle.rows.proofs.Bool.{by-test}
use Rattle.packets.specs.declared.Command.{Command}
use Rattle.packets.specs.Answers.{command_bytes}
use Rattle.airframe.specs.declared.Form.{Form}
use Rattle.airframe.specs.declared.Left.{Left}
use Rattle.airframe.specs.declared.Sending.TheVariants.{Over, Awaiting}
use Rattle.airframe.specs.Building.{command_fits, first_fits, acknowledgement_bytes}
use Rattle.airframe.specs.Sending.{sent}
use Rattle.aircraft_lines.specs.Asked.{takes, again}
use Rattle.aircraft_answers.specs.declared.Underway.{Underway}
use Rattle.aircraft_answers.specs.Spoken.{Way, way, Spoken, spoken, sent_if, spoken_of}
use Rattle.aircraft_answers.specs.Promise.{way_in, Spoke}
use Rattle.aircraft_answers.proofs.Built.{Put, code_first}

-- ---- what is on its way after them

-- nothing changed
pub stayed : (s : Spoken) (u : Underway) {o o' : Output} → s.way ≡ way_in u → Written s.text 800 o o' → Spoke s u o o'
stayed s u e w = record { text = w; way = sym e }

-- a command was sent
pub newly_sent : (c : Command) (w : Way) (u : Underway) {o o' : Output} (n : ℕ) → Put (command_fits c) (command_bytes c) u.room u.count
    → u.sending ≡ sent (get_or u.room 0 0) → n ≤ 800 → Written (bytes_line 80 (take u.count u.room)) n o o'
    → Spoke (sent_if (command_fits c) c w) u o o'
newly_sent c w u n p s h t =
    rw p.inside
    (record {
      text = renamed _ 800 (ap (bytes_line 80) p.taken) h t;
      way = ap₂ way (s ∙ ap sent (code_first c u.room u.count (command_fits c) p)) p.taken;
    })

module _ (first : ℕ) (form : Form) (w : Way) where
  pub first_taken : first_fits first ≡ true → spoken_of (takes first form) w ≡ spoken (bytes_line 80 (acknowledgement_bytes first form)) w
  unfolding spoken_of
  first_taken e = rw e

  pub first_refused : first_fits first ≡ false → spoken_of (takes first form) w ≡ spoken (refused_line 89 20) w
  unfolding spoken_of
  first_refused e = rw e

  -- either way nothing changes on its way
  pub take_stays : (spoken_of (takes first form) w).way ≡ w
  unfolding spoken_of
  take_stays = by-test (λ (s : Spoken). s.way ≡ w) (first_fits first) (λ _. refl) (λ _. refl)

module _ (w : Way) where
  pub over_again : w.sending ≡ Over → spoken_of again w ≡ spoken (78 ∷ 32 ∷ 45 ∷ 10 ∷ []) w
  unfolding spoken_of
  over_again e = ap (λ (t : List ℕ). spoken t w) (rw e)

  pub sent-again : (code : ℕ) (left : Left) → w.sending ≡ Awaiting code left → spoken_of again w ≡ spoken (bytes_line 80 w.bytes) w
  unfolding spoken_of
  sent-again code left e = ap (λ (t : List ℕ). spoken t w) (rw e)
