-- What `Q`, `Y` and `N` print; and what is left of a command's sends, which goes by the replies alone.
-- Assumes nothing.
use mathlib.Core.Path.{◌≡◌, refl, ap, ◌∙◌}
use mathlib.Core.Bool.{true, false, not}
use mathlib.Core.List.{List, [], ◌∷◌}
use Rattle.rows.proofs.Bool.{split, and_left, and_right, not-true}
use Rattle.packets.specs.declared.Command.{Command}
use Rattle.packets.specs.Commands.{command_row}
use Rattle.airframe.specs.declared.Sending.{Sending}
use Rattle.airframe.specs.Building.{first_fits}
use Rattle.airframe.specs.Sending.{sent}
use Rattle.aircraft_lines.specs.Asked.{Ask, sends, takes, hears, waits, again, other}
use Rattle.aircraft_answers.specs.Spoken.{Way, spoken_of}
use Rattle.aircraft_answers.specs.Statements.{accepted, none_accepted, way_after, CommandPrinted, AcknowledgementPrinted, NothingAgain, came_in, sending_after, OnlyReplies}

-- ---- what is printed

pub command_printed : CommandPrinted
unfolding spoken_of
command_printed c w = split (accepted (sends c)) (λ e. rw e) (λ e. rw e)

pub acknowledgement_printed : AcknowledgementPrinted
unfolding spoken_of
acknowledgement_printed first form w = split (first_fits first) (λ e. rw e) (λ e. rw e)

pub nothing_again : NothingAgain
unfolding spoken_of
nothing_again w e = rw e

-- ---- the sends

-- a line and those behind it: only a reply changes what is left
sending_on : (a : Ask) (w : Way) (more : List Ask) → accepted a ≡ false
    → sending_after (spoken_of a w).way.sending (came_in more) ≡ sending_after w.sending (came_in (a ∷ more))
unfolding spoken_of came_in sending_after
sending_on (sends c) w more e = rw e
sending_on (takes first form) w more e = split (first_fits first) (λ t. rw t) (λ f. rw f)
sending_on (hears bs) w more e = refl
sending_on waits w more e = refl
sending_on again w more e = refl
sending_on other w more e = refl

sending_all : (more : List Ask) (w : Way) → none_accepted more ≡ true → (way_after more w).sending ≡ sending_after w.sending (came_in more)
unfolding none_accepted way_after came_in sending_after
sending_all [] w h = refl
sending_all (a ∷ more) w h =
    sending_all more (spoken_of a w).way (and_right (not (accepted a)) (none_accepted more) h)
    ∙ sending_on a w more (not-true (and_left (not (accepted a)) (none_accepted more) h))

-- a `Q` that is accepted starts with all of its sends
new_sending : (c : Command) (w : Way) → accepted (sends c) ≡ true → (spoken_of (sends c) w).way.sending ≡ sent (command_row c).code
unfolding spoken_of
new_sending c w e = rw e

pub only_replies : OnlyReplies
unfolding way_after
only_replies c w more e h =
    sending_all more (spoken_of (sends c) w).way h ∙ ap (λ (s : Sending). sending_after s (came_in more)) (new_sending c w e)
