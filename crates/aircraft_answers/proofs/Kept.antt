-- What is on its way is kept: its bytes by every line but a `Q` that is accepted.
-- Assumes nothing.
use mathlib.Core.Path.{◌≡◌, refl, sym, ap, ◌∙◌}
use mathlib.Core.Bool.{true, false, not}
use mathlib.Core.List.{List, [], ◌∷◌}
use Rattle.rows.proofs.Bool.{split, and_left, and_right, not-true}
use Rattle.packets.specs.declared.Command.{Command}
use Rattle.packets.specs.Answers.{command_bytes}
use Rattle.airframe.specs.Building.{first_fits}
use Rattle.items.specs.Printed.{bytes_line}
use Rattle.aircraft_lines.specs.Asked.{Ask, sends, takes, hears, waits, again, other}
use Rattle.airframe.specs.Sending.{is_over}
use Rattle.aircraft_answers.specs.Spoken.{Way, spoken_of}
use Rattle.aircraft_answers.specs.Statements.{TooLarge, accepted, none_accepted, way_after, SameBytes, RefusedKeeps, NoSendUsed}
use Rattle.airframe.proofs.Typed.{outside}

pub too_large : TooLarge
unfolding spoken_of
too_large c w e = rw (outside c e)

pub refused_keeps : RefusedKeeps
unfolding spoken_of
refused_keeps c w e = rw e

pub no_send_used : NoSendUsed
unfolding spoken_of
no_send_used first form w = (split (first_fits first) (λ e. rw e) (λ e. rw e), refl)

-- ---- the bytes

bytes-kept : (a : Ask) (w : Way) → accepted a ≡ false → (spoken_of a w).way.bytes ≡ w.bytes
unfolding spoken_of
bytes-kept (sends c) w e = rw e
bytes-kept (takes first form) w e = split (first_fits first) (λ t. rw t) (λ f. rw f)
bytes-kept (hears bs) w e = refl
bytes-kept waits w e = refl
bytes-kept again w e = refl
bytes-kept other w e = refl

all-kept : (more : List Ask) (w : Way) → none_accepted more ≡ true → (way_after more w).bytes ≡ w.bytes
unfolding none_accepted way_after
all-kept [] w h = refl
all-kept (a ∷ more) w h =
    all-kept more (spoken_of a w).way (and_right (not (accepted a)) (none_accepted more) h)
    ∙ bytes-kept a w (not-true (and_left (not (accepted a)) (none_accepted more) h))

-- a `Q` that is accepted prints the bytes that are then on its way ..
module _ (c : Command) (w : Way) (e : accepted (sends c) ≡ true) where
  new_bytes : (spoken_of (sends c) w).way.bytes ≡ command_bytes c
  unfolding spoken_of
  new_bytes = rw e

  new_text : (spoken_of (sends c) w).text ≡ bytes_line 80 (command_bytes c)
  unfolding spoken_of
  new_text = rw e

-- .. and `N` prints what is on its way
again_text : (w : Way) → is_over w.sending ≡ false → (spoken_of again w).text ≡ bytes_line 80 w.bytes
unfolding spoken_of
again_text w e = rw e

pub same_bytes : SameBytes
unfolding way_after
same_bytes c w more e h o =
    again_text (way_after more (spoken_of (sends c) w).way) o
    ∙ ap (bytes_line 80) (all-kept more (spoken_of (sends c) w).way h ∙ new_bytes c w e)
    ∙ sym (new_text c w e)
