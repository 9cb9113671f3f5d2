-- Demand 2: which calls set message error, clear it or leave it, and what the status word shows.
-- Assumes nothing.
use mathlib.Core.Path.{◌≡◌, refl, ap}
use mathlib.Core.Bool.{false, cond}
use mathlib.Core.List.{[]}
use Rattle.rows.specs.Rows.{gave}
use Rattle.rows.proofs.Bool.{never, not-true}
use Rattle.tables.specs.declared.Words.{Words}
use Rattle.tables.specs.Port.{start_words, close_of, status_of}
use Rattle.rules.specs.State.{fresh_pod, desk_in}
use Rattle.rules.specs.Obey.{initialised_pod, done_by}
use Rattle.rules.specs.Families.{status, word_of}
use Rattle.rules.specs.Refusals.{reads}
use Rattle.rules.specs.World.{World, word, Stepped, is_refused, told}
use Rattle.rules.specs.History.{Event}
use Rattle.rules.specs.Transfers.{error_by}
use Rattle.rules.specs.Demands.{MessageError, StatusWordShows}
use Rattle.rules.proofs.Happens.{Happens, by_rows, by_word, happens}
use Rattle.rules.proofs.Eventful.{Eventful, quiet, anew, initialised, slept, updated, wrote, began, closed, acknowledged, shelved, spoken, touched, eventful}
use Rattle.rules.proofs.Untouched.{acknowledged_untouched}
use Rattle.rules.proofs.Heard.{as_heard}

-- ---- any call

event_errs : (w v : World) (e : Event) → Eventful w e v
    → v.pod.words.error ≡ error_by e w.pod.initialised w.pod.words w.lent.load w.pod.words.error
unfolding error_by done_by initialised_pod fresh_pod start_words close_of
event_errs w _ _ quiet = refl
event_errs w _ _ anew = refl
event_errs w _ _ (initialised f) = refl
event_errs w _ _ (slept a) = refl
event_errs w _ _ (updated f) = refl
event_errs w _ _ (wrote id v k) = refl
event_errs w _ _ (began x a k) = refl
event_errs w _ _ closed = refl
event_errs w _ _ (acknowledged first one k) = ap (λ (q : Words). q.error) (acknowledged_untouched first one w.pod).words
event_errs w _ _ (shelved s b k) = refl
event_errs w _ _ (spoken c k) = ap (λ (q : Words). q.error) (as_heard c w.pod.initialised w.pod.words (desk_in w.lent)).words
event_errs w _ _ (touched c k) = refl

pub message_error : MessageError
message_error w c = event_errs w _ _ (eventful (happens w c))

-- ---- the status word

shows : {w : World} {s : Stepped} → Happens w (word status) s → is_refused s.told.said ≡ false
    → s.told ≡ told (gave (reads (cond w.pod.words.error 2 0))) []
unfolding word_of status_of
shows (by_rows c n f) e = never refl e
shows (by_word c k) e = refl

pub status_word_shows : StatusWordShows
status_word_shows w e = shows (happens w (word status)) (not-true e)
