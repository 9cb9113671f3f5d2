-- When the aircraft sends again, ends and reports the pod lost, over any list of replies.
-- Assumes nothing.
use Prim.Native.Nat.{ℕ, zero, suc, ◌<◌, ◌≤◌}
use native.Mathlib.Omega.{arith}
use mathlib.Core.Path.{◌≡◌, refl, ap}
use mathlib.Core.Bool.{Bool, true, false, cond}
use mathlib.Core.List.{List, [], ◌∷◌}
use mathlib.Core.Logic.{◌↔◌}
use lib.ListN.{length, get_or}
use Rattle.rows.proofs.Bool.{split}
use Rattle.airframe.specs.declared.Left.{Left}
use Rattle.airframe.specs.declared.Left.TheVariants.{Nought, One, Two, Three}
use Rattle.airframe.specs.declared.Sending.TheVariants.{Over, Awaiting}
use Rattle.airframe.specs.declared.Step.{Step}
use Rattle.airframe.specs.declared.Step.TheVariants.{Idle, Ended, Again, Lost}
use Rattle.airframe.specs.Sending.{Came, sent, unanswered, step_left, fewer, Outcome, outcome, read_in, heard_of, steps_of}
use Rattle.airframe.specs.Statements.{again_in, unanswered_run, AgainThrice, LostAtFourth, AgainWhile, EndedOnce}

-- the number of sends that are left
abbrev count : Left → ℕ
count Nought = 0
count One = 1
count Two = 2
count Three = 3

-- what is said at place k, where n sends are left, r replies go unanswered before the first that does not, and m come
data Says (n r m k : ℕ) : Step → Type 0 where
  again : k < n → k < r → Says n r m k Again
  lost : k ≡ n → k < r → Says n r m k Lost
  ended : k ≡ r → k ≤ n → k < m → Says n r m k Ended
  idle : (k ≤ n → k ≤ r → k < m → ⊥) → Says n r m k Idle

-- one reply later
later : {n r m k : ℕ} {s : Step} → Says n r m k s → Says (suc n) (suc r) (suc m) (suc k) s
later (again a b) = again (omega arith) (omega arith)
later (lost a b) = lost (omega arith) (omega arith)
later (ended a b c) = ended (omega arith) (omega arith) (omega arith)
later (idle f) = idle (λ a b c. f (omega arith) (omega arith) (omega arith))

-- nothing is said once it is over
over_idle : (xs : List Came) (k : ℕ) → get_or (steps_of Over xs) k Idle ≡ Idle
unfolding steps_of heard_of
over_idle [] k = refl
over_idle (x ∷ xs) zero = refl
over_idle (x ∷ xs) (suc k) = over_idle xs k

over_none : (xs : List Came) → again_in (steps_of Over xs) ≡ 0
unfolding steps_of heard_of again_in
over_none [] = refl
over_none (x ∷ xs) = over_none xs

-- ---- what is said of each reply

module _ (code : ℕ) where
  abbrev SaysOf : Left → List Came → ℕ → Type 0
  SaysOf left xs k = Says (count left) (unanswered_run code xs) (length xs) k (get_or (steps_of (Awaiting code left) xs) k Idle)

  -- a reply that goes unanswered uses up a send, and one that does not is the end
  abbrev after : Left → Came → Bool → Outcome
  after left x b = cond b (outcome (step_left left) (read_in code x) (fewer code left)) (outcome Ended (read_in code x) Over)

  steps_after : (left : Left) (x : Came) (xs : List Came) (b : Bool) → unanswered code x ≡ b
      → steps_of (Awaiting code left) (x ∷ xs) ≡ (after left x b).step ∷ steps_of (after left x b).sending xs
  unfolding steps_of heard_of
  steps_after left x xs b e = ap (λ (c : Bool). (after left x c).step ∷ steps_of (after left x c).sending xs) e

  -- of one more reply, from what is said of the others with any number of sends left
  says_one : (left : Left) (x : Came) (xs : List Came) (k : ℕ) → ((l : Left) (j : ℕ) → SaysOf l xs j) → SaysOf left (x ∷ xs) k
  unfolding unanswered_run
  says_one left x xs k more =
      split (unanswered code x) (λ e. rw (steps_after left x xs true e, e) (on left k)) (λ e. rw (steps_after left x xs false e, e) (off k))
    where
      r : ℕ
      r = unanswered_run code xs

      on : (left : Left) (k : ℕ) → Says (count left) (suc r) (suc (length xs)) k (get_or (step_left left ∷ steps_of (fewer code left) xs) k Idle)
      on Nought zero = lost refl (omega arith)
      on Nought (suc j) = rw (over_idle xs j) (idle (λ a b c. omega arith))
      on One zero = again (omega arith) (omega arith)
      on One (suc j) = later (more Nought j)
      on Two zero = again (omega arith) (omega arith)
      on Two (suc j) = later (more One j)
      on Three zero = again (omega arith) (omega arith)
      on Three (suc j) = later (more Two j)

      off : (k : ℕ) → Says (count left) 0 (suc (length xs)) k (get_or (Ended ∷ steps_of Over xs) k Idle)
      off zero = ended refl (omega arith) (omega arith)
      off (suc j) = rw (over_idle xs j) (idle (λ a b c. omega arith))

  says : (left : Left) (xs : List Came) (k : ℕ) → SaysOf left xs k
  unfolding steps_of
  says left [] k = idle (λ a b c. omega arith)
  says left (x ∷ xs) k = says_one left x xs k (λ l j. says l xs j)

  -- no more replies go unanswered than come
  run_short : (xs : List Came) → unanswered_run code xs ≤ length xs
  unfolding unanswered_run
  run_short [] = omega arith
  run_short (x ∷ xs) = let h = run_short xs in split (unanswered code x) (λ e. rw e (omega arith)) (λ e. rw e (omega arith))

  -- and 'again' is said at most once for each send that is left
  again_one : (left : Left) (x : Came) (xs : List Came) → ((l : Left) → again_in (steps_of (Awaiting code l) xs) ≤ count l)
      → again_in (steps_of (Awaiting code left) (x ∷ xs)) ≤ count left
  unfolding again_in
  again_one left x xs more =
      split (unanswered code x) (λ e. rw (steps_after left x xs true e) (on left)) (λ e. rw (steps_after left x xs false e, over_none xs) (omega arith))
    where
      on : (left : Left) → again_in (step_left left ∷ steps_of (fewer code left) xs) ≤ count left
      on Nought = rw (over_none xs) (omega arith)
      on One = omega (arith, more Nought)
      on Two = omega (arith, more One)
      on Three = omega (arith, more Two)

  few_again : (left : Left) (xs : List Came) → again_in (steps_of (Awaiting code left) xs) ≤ count left
  unfolding steps_of again_in
  few_again left [] = omega arith
  few_again left (x ∷ xs) = again_one left x xs (λ l. few_again l xs)

-- ---- the statements

pub again_thrice : AgainThrice
unfolding sent
again_thrice code xs = few_again code Three xs

-- each step is said exactly where its facts hold
abbrev place : Step → ℕ
place Idle = 0
place Ended = 1
place Again = 2
place Lost = 3

module _ {n r m k : ℕ} (short : r ≤ m) where
  said_lost : {s : Step} → Says n r m k s → (s ≡ Lost) ↔ ((k ≡ n) × (suc n ≤ r))
  said_lost (lost a b) = (λ e. omega arith, λ h. refl)
  said_lost (again a b) = (λ e. omega (arith, ap place e), λ h. absurd (omega arith))
  said_lost (ended a b c) = (λ e. omega (arith, ap place e), λ h. absurd (omega arith))
  said_lost (idle f) = (λ e. omega (arith, ap place e), λ h. absurd (f (omega arith) (omega arith) (omega arith)))

  said_again : {s : Step} → Says n r m k s → (s ≡ Again) ↔ ((k < n) × (k < r))
  said_again (lost a b) = (λ e. omega (arith, ap place e), λ h. absurd (omega arith))
  said_again (again a b) = (λ e. (a, b), λ h. refl)
  said_again (ended a b c) = (λ e. omega (arith, ap place e), λ h. absurd (omega arith))
  said_again (idle f) = (λ e. omega (arith, ap place e), λ h. absurd (f (omega arith) (omega arith) (omega arith)))

  said_ended : {s : Step} → Says n r m k s → (s ≡ Ended) ↔ ((k ≡ r) × (k < suc n) × (k < m))
  said_ended (lost a b) = (λ e. omega (arith, ap place e), λ h. absurd (omega arith))
  said_ended (again a b) = (λ e. omega (arith, ap place e), λ h. absurd (omega arith))
  said_ended (ended a b c) = (λ e. omega arith, λ h. refl)
  said_ended (idle f) = (λ e. omega (arith, ap place e), λ h. absurd (f (omega arith) (omega arith) (omega arith)))

pub lost_at_fourth : LostAtFourth
unfolding sent
lost_at_fourth code xs k = said_lost (run_short code xs) (says code Three xs k)

pub again_while : AgainWhile
unfolding sent
again_while code xs k = said_again (run_short code xs) (says code Three xs k)

pub ended_once : EndedOnce
unfolding sent
ended_once code xs k = said_ended (run_short code xs) (says code Three xs k)
