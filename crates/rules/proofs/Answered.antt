-- Demand 1: every call is answered, or refused by the first of its rows that holds, which in document 01 is the lowest, with all as it came; and what
-- an answered call gives.
-- Assumes nothing.
use Prim.Native.Nat.{ℕ}
use mathlib.Core.Path.{◌≡◌, refl, sym, ap, ◌∙◌}
use mathlib.Core.Bool.{true, false}
use mathlib.Core.List.{List, [], ◌∷◌, ◌++◌}
use Rattle.rows.specs.Rows.{Row, First, Clear, refused, gave, rising}
use Rattle.rows.proofs.Bool.{by-test, never, not-true}
use Rattle.rows.proofs.Laws.{never_both, first_one, refused_same, gave_not}
use Rattle.rows.proofs.Lowest.{lowest}
use Rattle.rules.specs.State.{desk_in}
use Rattle.rules.specs.Refusals.{Giving, done, state_row}
use Rattle.rules.specs.Traits.{traits}
use Rattle.rules.specs.Calls.{reach_of}
use Rattle.rules.specs.World.{World, Call, power, packet, put, word, lone, samples, room_of, Told, Stepped, stepped, is_answered, is_refused, step, rows_of}
use Rattle.rules.specs.Demands.{AlwaysAnswered, LowestFirst, RefusedUnchanged}
use Rattle.rules.specs.History.{lone_as}
use Rattle.rules.specs.Numbered.{rows_rise}
use Rattle.rules.specs.Said.{gives_number, gives_bytes, SaysDone}
use Rattle.rules.proofs.Lone.{lone_rise, lone_is, unsent}
use Rattle.rules.proofs.Happens.{Happens, by_rows, by_power, by_empty, by_damage, by_acknowledgement, by_check, by_command, by_put, by_word, by_lone, by_samples, happens}
use Rattle.rules.proofs.WordRows.{rowed}

-- how a call ends: refused by its first row that holds, or answered
pub data Ends (w : World) (c : Call) (s : Stepped) : Type 0 where
  stopped : (n : ℕ) → First n (rows_of w c) → s ≡ stepped (refused n) (room_of c) w.pod w.lent → Ends w c s
  answered : (g : Giving) → Clear (rows_of w c) → s.told.said ≡ gave g → Ends w c s

pub ends : {w : World} {c : Call} {s : Stepped} → Happens w c s → Ends w c s
ends (by_rows c n f) = stopped n f refl
ends (by_power k) = answered _ k refl
ends (by_empty b room k e) = answered _ k refl
ends (by_damage b room first n k e) = answered _ k refl
ends (by_acknowledgement b room first one k e) = answered _ k refl
ends (by_check b room c n k e f) = answered _ k refl
ends (by_command b room c k e q) = answered _ k refl
ends (by_put s b k) = answered _ k refl
ends (by_word c k) = answered _ k refl
ends (by_lone c k) = answered _ k refl
ends (by_samples n xs k) = answered _ k refl

says : {s r : Stepped} → s ≡ r → s.told.said ≡ r.told.said
says e = ap (λ (x : Stepped). x.told.said) e

-- "Each is answered, or refused by a number in document 01": exactly by the first row that holds
pub always_answered : AlwaysAnswered
always_answered w c n = (there (ends (happens w c)), back (ends (happens w c)))
  where
    there : Ends w c (step w c) → (step w c).told.said ≡ refused n → First n (rows_of w c)
    there (stopped m f e) s = rw (refused_same (sym (says e) ∙ s)) at f
    there (answered g k e) s = absurd (gave_not (sym e ∙ s))

    back : Ends w c (step w c) → First n (rows_of w c) → (step w c).told.said ≡ refused n
    back (stopped m f e) g = rw (← first_one f g) (says e)
    back (answered g k e) f = never_both f k

-- where a call is answered, none of its rows holds
pub answered_clear : (w : World) (c : Call) → is_answered w c ≡ true → Clear (rows_of w c)
answered_clear w c h = on (ends (happens w c))
  where
    on : Ends w c (step w c) → Clear (rows_of w c)
    on (stopped n f e) = never (rw (says e) at h) refl
    on (answered g k e) = k

-- "and a refused call leaves all its lent memory and the pod's state as they came"
pub refused_unchanged : RefusedUnchanged
refused_unchanged w c n s = on (ends (happens w c))
  where
    on : Ends w c (step w c) → step w c ≡ stepped (refused n) (room_of c) w.pod w.lent
    on (stopped m f e) = rw (← refused_same (sym (says e) ∙ s)) e
    on (answered g k e) = absurd (gave_not (sym e ∙ s))

rows_rise_lem : (w : World) (c : Call) → rows_rise c ≡ true → rising 0 (rows_of w c) ≡ true
unfolding rising rows_of
rows_rise_lem w power up = refl
rows_rise_lem w (packet b room) up = refl
rows_rise_lem w (put s b) up = refl
rows_rise_lem w (word c) up =
    rw ((rowed c).rows w.lent.tables) (by-test (λ (rs : List Row). rising 0 (rs ++ (state_row w.pod ∷ [])) ≡ true) (traits c).lent (λ e. refl) (λ e. refl))
rows_rise_lem w (lone c) up = lone_rise c w.pod up
rows_rise_lem w (samples k xs) up = refl

-- "Lowest number first"
pub lowest_first : LowestFirst
lowest_first w c n up =
    let low = lowest (rows_of w c) (rows_rise_lem w c up) n in
    let first = always_answered w c n in
    (λ s. low.0 (first.0 s), λ h. first.1 (low.1 h))

-- ---- what an answered call gives

Gives : Call → Told → Type 0
Gives c t = (gives_number c ≡ false → t.said ≡ gave done) × (gives_bytes c ≡ false → t.bytes ≡ [])

gives : {w : World} {c : Call} {s : Stepped} → Happens w c s → is_refused s.told.said ≡ false → Gives c s.told
unfolding Gives
gives (by_rows c n f) a = never refl a
gives (by_power k) a = (λ e. refl, λ e. refl)
gives (by_empty b room k e) a = (λ z. never refl z, λ z. never refl z)
gives (by_damage b room first n k e) a = (λ z. never refl z, λ z. never refl z)
gives (by_acknowledgement b room first one k e) a = (λ z. never refl z, λ z. never refl z)
gives (by_check b room c n k e f) a = (λ z. never refl z, λ z. never refl z)
gives (by_command b room c k e q) a = (λ z. never refl z, λ z. never refl z)
gives (by_put s b k) a = (λ e. refl, λ e. refl)
gives {w} (by_word c k) a = (λ e. ap gave ((rowed c).said w.pod.initialised w.pod.words (desk_in w.lent) e), λ e. refl)
gives {w} (by_lone c k) a = (λ e. refl, λ e. rw (lone_is c (reach_of w.pod)) (unsent (lone_as c).moves w.pod.pipe e))
gives (by_samples n xs k) a = (λ e. refl, λ z. never refl z)

pub says_done : SaysDone
unfolding Gives
says_done w c a = gives (happens w c) (not-true a)
