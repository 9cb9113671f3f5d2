-- A state that is none, and the steps of one that is some.
-- Assumes nothing.
use Prim.Native.Nat.{ℕ, ◌^◌, ◌<◌, ◌≤◌}
use native.Mathlib.Omega.{arith}
use mathlib.Core.Path.{◌≡◌, refl, ap, ◌∙◌}
use mathlib.Core.List.{List, [], ◌∷◌, map}
use mathlib.Core.Logic.{◌⊎◌, inl, inr}
use borrow.Author.Tests.{le-ltb, lt-ltb, ne_eqb}
use lib.Dec.{ltb}
use lib.IntN.{ℤ}
use Rattle.rows.specs.Rows.{Out, out, ran}
use Rattle.rows.proofs.Bool.{split}
use Rattle.airframe.specs.declared.Left.{Left}
use Rattle.airframe.specs.declared.Left.TheVariants.{Nought, One, Two, Three}
use Rattle.airframe.specs.declared.Sending.{Sending}
use Rattle.airframe.specs.declared.Sending.TheVariants.{Over, Awaiting}
use Rattle.airframe.specs.Sending.{Came, silence, answer, sent, unanswered, fewer, heard_of, steps_of}
use Rattle.tolmezha.specs.Numbers.{state_of, code_in, sends_in, sending_in, sent_answered, step_of, step_answered}
use Rattle.tolmezha.specs.Statements.{IsNone, NoneIsKept, called, steps_in, StepsFollow, SentIs}
use Rattle.tolmezha.proofs.Apart.{state_back}

apart : {n m : ℕ} → n ≡ m → (n ≡ 0) ⊎ (4 < n) → 0 < m → m ≤ 4 → ⊥
apart e (inl z) l h = omega arith
apart e (inr g) l h = omega arith

none_over : (s : List ℕ) → IsNone s → sending_in s ≡ Over
unfolding sending_in
none_over s (inl h) = rw (le-ltb (code_in s) (2 ^ 8) h)
none_over s (inr h) =
    let n = sends_in s in
    split (ltb (code_in s) (2 ^ 8))
    (λ t.
    rw (
      t,
      ne_eqb n 1 (λ e. apart e h (omega arith) (omega arith)),
      ne_eqb n 2 (λ e. apart e h (omega arith) (omega arith)),
      ne_eqb n 3 (λ e. apart e h (omega arith) (omega arith)),
      ne_eqb n 4 (λ e. apart e h (omega arith) (omega arith)),
    ))
    (λ f. rw f)

pub none_is_kept : NoneIsKept
unfolding heard_of
none_is_kept =
    record {
      stepped = λ s x h. rw (none_over s h);
      replied = λ s x kind values h. rw (none_over s h);
    }

-- ---- the steps, by what is on its way: a code that is a byte stays one

abbrev Small : Sending → Type 0
Small Over = Unit
Small (Awaiting code left) = code < 2 ^ 8

fewer-small : (code : ℕ) (left : Left) → code < 2 ^ 8 → Small (fewer code left)
fewer-small code Nought h = tt
fewer-small code One h = h
fewer-small code Two h = h
fewer-small code Three h = h

next_small : (code : ℕ) (left : Left) (x : Came) → code < 2 ^ 8 → Small (heard_of (Awaiting code left) x).sending
unfolding heard_of
next_small code left x h = split (unanswered code x) (λ t. rw t (fewer-small code left h)) (λ f. rw f tt)

-- as C calls for it, a step is the same
called-step : (x : Came) (kind : ℤ) (values : List ℤ) (s : List ℕ) → (called x kind values s).step ≡ (step_answered x s).said
unfolding called
called-step silence kind values s = refl
called-step (answer a) kind values s = refl

called_state : (x : Came) (kind : ℤ) (values : List ℤ) (s : List ℕ) → (called x kind values s).state ≡ (step_answered x s).lent
unfolding called
called_state silence kind values s = refl
called_state (answer a) kind values s = refl

-- one step, and then the others
on : (x : Came) (kind : ℤ) (values : List ℤ) (s s' : List ℕ) (z : ℤ) (xs : List Came) (zs : List ℤ) → step_answered x s ≡ out z tt s'
    → ((kind : ℤ) (values : List ℤ) → steps_in kind values s' xs ≡ zs) → steps_in kind values s (x ∷ xs) ≡ z ∷ zs
unfolding steps_in
on x kind values s s' z xs zs e rest =
    let step = called-step x kind values s ∙ ap (λ (o : Out ℤ (Unit {0}) (List ℕ)). o.said) e in
    let state = called_state x kind values s ∙ ap (λ (o : Out ℤ (Unit {0}) (List ℕ)). o.lent) e in
    rw (step, state) (ap (λ (l : List ℤ). z ∷ l) (rest _ _))

over_step : (x : Came) → step_answered x (state_of Over) ≡ out (step_of (heard_of Over x).step) tt (state_of Over)
unfolding heard_of sending_in
over_step x = refl

over_rest : (x : Came) (xs : List Came) → ((kind : ℤ) (values : List ℤ) → steps_in kind values (state_of Over) xs ≡ map step_of (steps_of Over xs))
    → (kind : ℤ) (values : List ℤ) → steps_in kind values (state_of Over) xs ≡ map step_of (steps_of (heard_of Over x).sending xs)
unfolding heard_of
over_rest x xs e = e

steps_of_lem : (xs : List Came) (k : Sending) → Small k → (kind : ℤ) (values : List ℤ) → steps_in kind values (state_of k) xs ≡ map step_of (steps_of k xs)
unfolding steps_in steps_of
steps_of_lem [] k h kind values = refl
steps_of_lem (x ∷ xs) Over h kind values = on x kind values (state_of Over) (state_of Over) (step_of (heard_of Over x).step) xs _ (over_step x) (over_rest x xs (steps_of_lem xs Over tt))
steps_of_lem (x ∷ xs) (Awaiting code left) h kind values =
    let next = heard_of (Awaiting code left) x in
    on x kind values (state_of (Awaiting code left)) (state_of next.sending) (step_of next.step) xs _ (rw (state_back code left h)) (steps_of_lem xs next.sending (next_small code left x h))

pub steps_follow : StepsFollow
unfolding sent_answered ran sent
steps_follow code s kind values xs h = rw (lt-ltb code (2 ^ 8) h) (steps_of_lem xs (Awaiting code Three) h kind values)

pub sent_is : SentIs
unfolding sent_answered ran sent
sent_is =
    record {
      a_byte = λ code s h. rw (lt-ltb code (2 ^ 8) h);
      no_byte = λ code s h. rw (le-ltb code (2 ^ 8) h);
    }
