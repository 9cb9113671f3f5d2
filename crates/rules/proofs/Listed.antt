-- The kept list is judged by every call that is handed a state, and is the history's; each call leaves of the parameters what its event
-- does; power on makes a fresh state of any.
-- Assumes nothing.
use mathlib.Core.Path.{◌≡◌, refl, ap, ◌∙◌}
use mathlib.Core.Bool.{true, false, false≢true}
use Rattle.rows.specs.Rows.{Clear, past}
use Rattle.rows.proofs.Laws.{never_both}
use Rattle.rows.proofs.Bool.{not-false}
use Rattle.packets.specs.declared.Report.{Report}
use Rattle.params.specs.declared.Params.{Params}
use Rattle.params.specs.Rules.{stored}
use Rattle.params.proofs.Inside.{kept_list}
use Rattle.rules.specs.State.{fresh_pod, sound_pod}
use Rattle.rules.specs.Obey.{initialised_pod, done_by, report_of}
use Rattle.rules.specs.World.{World, Call, power, packet, put, word, lone, samples, Stepped, rows_of, is_answered, next}
use Rattle.rules.specs.Numbered.{state_broken, rows_in_order}
use Rattle.rules.specs.Listed.{judges_state, ListJudged, ListIsHistory, params_by, ParamsOnly, PowerMends}
use Rattle.rules.proofs.Happens.{Happens, by_rows, by_power, happens}
use Rattle.rules.proofs.Eventful.{quiet, anew, initialised, slept, updated, wrote, began, closed, acknowledged, shelved, spoken, touched, eventful}
use Rattle.rules.proofs.Histories.{Keeps}
use Rattle.rules.proofs.Untouched.{acknowledged_untouched}
use Rattle.rules.proofs.Inside.{pod_in}
use Rattle.rules.proofs.Answered.{answered_clear}
use Rattle.rules.proofs.Numbered.{all_clear}
use Rattle.rules.proofs.Asked.{report_is}

-- what is answered was handed a state within its bounds
answered_sound : (w : World) (c : Call) → judges_state c ≡ true → is_answered w c ≡ true → sound_pod w.pod ≡ true
unfolding rows_in_order
answered_sound w c h a = on c h (third (all_clear w c (answered_clear w c a)))
  where
    third : Clear (rows_in_order w c) → state_broken c w.pod ≡ false
    third (past room (past size (past state rest))) = state

    on : (c : Call) → judges_state c ≡ true → state_broken c w.pod ≡ false → sound_pod w.pod ≡ true
    on power h k = absurd (false≢true h)
    on (packet b room) h k = not-false k
    on (put s b) h k = not-false k
    on (word x) h k = not-false k
    on (lone x) h k = not-false k
    on (samples n xs) h k = not-false k

pub list_judged : ListJudged
list_judged w c h a = kept_list w.pod.params (pod_in w.pod (answered_sound w c h a)).params

pub list_is_history : ListIsHistory
unfolding report_of
list_is_history l cs = ap (λ (r : Report). r.ids) (report_is l cs)

params_kept : Keeps params_by (λ w p. w.pod.params ≡ p)
unfolding done_by initialised_pod fresh_pod
params_kept w _ _ quiet p e = e
params_kept w _ _ anew p e = refl
params_kept w _ _ (initialised f) p e = refl
params_kept w _ _ (slept on) p e = e
params_kept w _ _ (updated f) p e = e
params_kept w _ _ (wrote id v a) p e = ap (λ (q : Params). stored q id v) e
params_kept w _ _ (began x on k) p e = e
params_kept w _ _ closed p e = e
params_kept w _ _ (acknowledged first one k) p e = (acknowledged_untouched first one w.pod).params ∙ e
params_kept w _ _ (shelved s b k) p e = e
params_kept w _ _ (spoken c k) p e = e
params_kept w _ _ (touched c k) p e = e

pub params_only : ParamsOnly
params_only w c = params_kept w (next w c) _ (eventful (happens w c)) w.pod.params refl

pub power_mends : PowerMends
power_mends w a = on (happens w power) (answered_clear w power a)
  where
    on : {s : Stepped} → Happens w power s → Clear (rows_of w power) → s.world.pod ≡ fresh_pod
    on (by_rows c n f) k = never_both f k
    on (by_power k) q = refl
