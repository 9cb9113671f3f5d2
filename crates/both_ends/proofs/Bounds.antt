-- The aircraft's 20 and the pod's 0x39 are one judgement, but for the span, which only the pod judges.
-- Assumes nothing.
use Prim.Native.Nat.{ℕ, ◌-◌}
use native.Mathlib.Omega.{arith}
use mathlib.Core.Path.{◌≡◌, refl, ap, ◌∙◌}
use mathlib.Core.Bool.{Bool, true, false, not, ◌&&◌, ◌||◌}
use mathlib.Core.List.{List, [], ◌∷◌}
use borrow.Author.Tests.{eqb-false}
use lib.Dec.{eqb}
use lib.IntN.{ℤ, pos}
use lib.Seq.{get_or-set_other}
use Rattle.rows.specs.Rows.{Row, First, here, after, none, Said, refused, Out}
use Rattle.rows.proofs.Bool.{split, never, and_left, and_right, and_both, and-false, not-true}
use Rattle.rows.proofs.Laws.{ran_first, ran-case, refused_same, gave_not, never_both}
use Rattle.blocks.specs.declared.Store.{Store}
use Rattle.blocks.specs.declared.Store.TheVariants as store
use Rattle.packets.specs.declared.Command.{Command}
use Rattle.packets.specs.declared.Command.TheVariants.{Initialise, Status, Update, Write, Read, Priority, Data, Shutdown}
use Rattle.packets.specs.Commands.{fields_bounded}
use Rattle.params.specs.declared.Params.{Params}
use Rattle.params.specs.Rows.{param_row}
use Rattle.params.specs.Rules.{is_id, value_at, in_row, in_span, stored, write_allowed}
use Rattle.params.proofs.Inside.{in_span_lem}
use Rattle.params.proofs.Laws.{id_within}
use Rattle.rules.specs.declared.Pod.{Pod}
use Rattle.rules.specs.State.{Lent}
use Rattle.rules.specs.Obey.{Meant, field_check, awake_check, receive_checks, checks_of, done_by, obey_of}
use Rattle.rules.proofs.Inside.{pod_in}
use Rattle.airframe.specs.Building.{fields_fit, command_fits}
use Rattle.both_ends.specs.Ends.{holdable, is_end, spoils_span, BoundsShared}

-- ---- what the pod's check 8 judges

unfoldable taken : Command → Pod → Bool
taken (Initialise f) p = fields_bounded f
taken Status p = true
taken (Update f) p = fields_bounded f
taken (Write id v) p = write_allowed p.params id v
taken (Read id) p = is_id id
taken Priority p = true
taken Data p = true
taken Shutdown p = true

-- where it fails, it is the first row that holds: by itself, and behind the check that an initialised pod passes
alone : {b : Bool} → b ≡ false → First 0x39 (field_check b ∷ [])
alone {b} h = here {r = field_check b} (ap not h)

awake : {b : Bool} (p : Pod) → p.initialised ≡ true → b ≡ false → First 0x39 (awake_check p ∷ field_check b ∷ [])
awake p a h = after {r = awake_check p} (ap not a) (alone h)

outside-first : (c : Command) (p : Pod) → p.initialised ≡ true → taken c p ≡ false → First 0x39 (checks_of c p)
unfolding taken checks_of
outside-first (Initialise f) p a h = alone h
outside-first Status p a h = never refl h
outside-first (Update f) p a h = awake p a h
outside-first (Write id v) p a h = awake p a h
outside-first (Read id) p a h = awake p a h
outside-first Priority p a h = never refl h
outside-first Data p a h = never refl h
outside-first Shutdown p a h = never refl h

-- a first row is the head, with its number, or one behind it
by-head {ℓ} : {C : Type ℓ} {n : ℕ} {r : Row} {rs : List Row} → First n (r ∷ rs) → (r.number ≡ n → r.holds ≡ true → C) → (First n rs → C) → C
by-head (here h) f g = f refl h
by-head (after h k) f g = g k

no-first {ℓ} : {C : Type ℓ} {n : ℕ} → First n [] → C
no-first f = never_both f none

-- and where 0x39 is first, that check failed
alone_failed : {b : Bool} → First 0x39 (field_check b ∷ []) → b ≡ false
alone_failed h = by-head h (λ e. not-true) no-first

awake_failed : {b : Bool} (p : Pod) → First 0x39 (awake_check p ∷ field_check b ∷ []) → b ≡ false
awake_failed p h = by-head h (λ e k. absurd (omega arith)) alone_failed

awake-only {ℓ} : {C : Type ℓ} (p : Pod) → First 0x39 (awake_check p ∷ []) → C
awake-only p h = by-head h (λ e k. absurd (omega arith)) no-first

receives-not {ℓ} : {C : Type ℓ} (s : Store) (p : Pod) → First 0x39 (receive_checks s p) → C
receives-not s p h =
    by-head h (λ e k. absurd (omega arith)) (λ f. by-head f (λ e k. absurd (omega arith)) (λ g. by-head g (λ e k. absurd (omega arith)) no-first))

first-outside : (c : Command) (p : Pod) → First 0x39 (checks_of c p) → taken c p ≡ false
unfolding taken checks_of
first-outside (Initialise f) p h = alone_failed h
first-outside Status p h = awake-only p h
first-outside (Update f) p h = awake_failed p h
first-outside (Write id v) p h = awake_failed p h
first-outside (Read id) p h = awake_failed p h
first-outside Priority p h = receives-not store.Priority p h
first-outside Data p h = receives-not store.Ordinary p h
first-outside Shutdown p h = awake-only p h

-- ---- beside the aircraft's judgement

and_first : {a b : Bool} → b ≡ true → (a && b) ≡ false → a ≡ false
and_first {a} {b} h k = split a (λ t. never (and_both t h) k) (λ f. f)

and_less : (a b c : Bool) → (a && b) ≡ false → (a && (b && c)) ≡ false
and_less true b c h = rw h
and_less false b c h = refl

and_last : (a b c : Bool) → (a && b) ≡ true → (a && (b && c)) ≡ false → c ≡ false
and_last a b c h k = split c (λ t. never (and_both (and_left a b h) (and_both (and_right a b h) t)) k) (λ f. f)

or_none : (a b : Bool) → (a || b) ≡ false → (a ≡ false) × (b ≡ false)
or_none true b h = never refl h
or_none false b h = (refl, h)

-- a value of another id than 1 and 2 leaves the span as it is
span_kept : (p : Params) (id : ℕ) (v : ℤ) → is_id id ≡ true → is_end id ≡ false → in_span (stored p id v) ≡ in_span p
unfolding is_end
span_kept p id v i o =
    let not-one : id ≡ 1 → ⊥ = eqb-false id 1 (or_none (eqb id 1) (eqb id 2) o).0 in
    let not-two : id ≡ 2 → ⊥ = eqb-false id 2 (or_none (eqb id 1) (eqb id 2) o).1 in
    let within = id_within id i in
    let low : value_at (stored p id v) 1 ≡ value_at p 1 = get_or-set_other p.values (id - 1) 0 v (pos 0) (λ e. not-one (omega (arith, within))) in
    let high : value_at (stored p id v) 2 ≡ value_at p 2 = get_or-set_other p.values (id - 1) 1 v (pos 0) (λ e. not-two (omega (arith, within))) in
    rw (low, high)

-- so of a write that is within the bounds only 1 and 2 can be refused
write_judged : (p : Params) (id : ℕ) (v : ℤ) → in_span p ≡ true → write_allowed p id v ≡ false
    → (is_end id && not (in_span (stored p id v))) ≡ false → (is_id id && in_row (param_row id) v) ≡ false
unfolding write_allowed
write_judged p id v s h k =
    split (is_id id && in_row (param_row id) v)
    (λ fits.
    let spoilt = and_last (is_id id) (in_row (param_row id) v) (in_span (stored p id v)) fits h in
    split (is_end id)
    (λ t. never (and_both t (ap not spoilt)) k)
    (λ o. never (span_kept p id v (and_left (is_id id) (in_row (param_row id) v) fits) o ∙ s) spoilt))
    (λ f. f)

-- what the aircraft refuses the pod does not take
fits_not : (c : Command) (p : Pod) → holdable c ≡ true → command_fits c ≡ false → taken c p ≡ false
unfolding taken holdable command_fits fields_fit write_allowed
fits_not (Initialise f) p h k = and_first h k
fits_not Status p h k = k
fits_not (Update f) p h k = and_first h k
fits_not (Write id v) p h k = and_less (is_id id) (in_row (param_row id) v) (in_span (stored p.params id v)) k
fits_not (Read id) p h k = k
fits_not Priority p h k = k
fits_not Data p h k = k
fits_not Shutdown p h k = k

-- nor what spoils the span
spoils_not : (c : Command) (p : Pod) → spoils_span c p ≡ true → taken c p ≡ false
unfolding taken spoils_span write_allowed
spoils_not (Initialise f) p h = never h refl
spoils_not Status p h = never h refl
spoils_not (Update f) p h = never h refl
spoils_not (Write id v) p h =
    let broken : in_span (stored p.params id v) ≡ false = not-true (and_right (is_end id) (not (in_span (stored p.params id v))) h) in
    rw (broken, and-false (in_row (param_row id) v), and-false (is_id id))
spoils_not (Read id) p h = never h refl
spoils_not Priority p h = never h refl
spoils_not Data p h = never h refl
spoils_not Shutdown p h = never h refl

-- and nothing else
not_taken_lem : (c : Command) (p : Pod) → in_span p.params ≡ true → taken c p ≡ false → spoils_span c p ≡ false → command_fits c ≡ false
unfolding taken spoils_span command_fits fields_fit
not_taken_lem (Initialise f) p s h k = rw h
not_taken_lem Status p s h k = h
not_taken_lem (Update f) p s h k = rw h
not_taken_lem (Write id v) p s h k = write_judged p.params id v s h k
not_taken_lem (Read id) p s h k = h
not_taken_lem Priority p s h k = h
not_taken_lem Data p s h k = h
not_taken_lem Shutdown p s h k = h

-- ---- what is said

said_outside : (c : Command) (l : Lent) (p : Pod) → p.initialised ≡ true → taken c p ≡ false → (obey_of c l p).said ≡ refused 0x39
unfolding obey_of
said_outside c l p a h = ap (λ (o : Out (Said Meant) Pod Lent). o.said) (ran_first p l (done_by c l p) (outside-first c p a h))

outside_said : (c : Command) (l : Lent) (p : Pod) → (obey_of c l p).said ≡ refused 0x39 → taken c p ≡ false
unfolding obey_of
outside_said c l p =
    ran-case (λ (o : Out (Said Meant) Pod Lent). o.said ≡ refused 0x39 → taken c p ≡ false) (checks_of c p)
    (λ n f e. first-outside c p (rw (← (refused_same e)) f)) (λ k e. absurd (gave_not e))

pub bounds_shared : BoundsShared
bounds_shared c l p sound a =
    let span = in_span_lem p.params (pod_in p sound).params in
    record {
      outside = λ h k. said_outside c l p a (fits_not c p h k);
      spoilt = λ h. said_outside c l p a (spoils_not c p h);
      only = λ e. not_taken_lem c p span (outside_said c l p e);
    }
