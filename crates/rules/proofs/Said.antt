-- What is said decides the result: no two refusals and no two failures have one number, and no two values of a result and no two replies
-- say the same. So each call's promise decides everything: any two results that it allows are equal, with what was lent as each leaves it.
-- Assumes nothing.
use Prim.Native.Nat.{ℕ, ◌-◌}
use mathlib.Core.Path.{◌≡◌, refl, sym, ap, ◌∙◌}
use mathlib.Core.Bool.{cond}
use mathlib.Core.List.{[], ◌∷◌}
use lib.Dec.{eqb}
use lib.ListN.{get_or}
use Rattle.std.specs.Prelude.{Result, Ok, Err}
use Rattle.rows.specs.Rows.{Said, refused, gave, Out, out}
use Rattle.rules.specs.declared.Refusal.{Refusal}
use Rattle.rules.specs.declared.Refusal.TheVariants.{Room, Size, State, Count, Over, Asleep, Full, Busy, Eight}
use Rattle.rules.specs.declared.Answer.{Answer}
use Rattle.rules.specs.declared.Answer.TheVariants.{Done, Length, Word}
use Rattle.rules.specs.declared.Reply.{Reply}
use Rattle.rules.specs.declared.Reply.TheVariants.{Success, Report, Value, Block}
use Rattle.rules.specs.declared.Failure.{Failure}
use Rattle.rules.specs.declared.Failure.TheVariants as failure
use Rattle.rules.specs.Refusals.{Giving, done, bytes, reads, refusal_number, giving, said, answer_said}
use Rattle.rules.specs.Obey.{Meant, success, report, value, block, failure_number, reply_said}

-- what can be had back of what it gives is given once
once : {A B : Type 0} (f : A → B) (g : B → A) → ((a : A) → g (f a) ≡ a) → (a b : A) → f a ≡ f b → a ≡ b
once f g back a b h = sym (back a) ∙ ap g h ∙ back b

-- ---- a refusal, by its number

refusal_of : ℕ → Refusal
refusal_of n = cond (eqb n 21) Busy (cond (eqb n 22) Eight (get_or (Full ∷ Room ∷ Size ∷ State ∷ Count ∷ Over ∷ Asleep ∷ []) n Full))

refusal-back : (r : Refusal) → refusal_of (refusal_number r) ≡ r
unfolding refusal_of refusal_number
refusal-back Room = refl
refusal-back Size = refl
refusal-back State = refl
refusal-back Count = refl
refusal-back Over = refl
refusal-back Asleep = refl
refusal-back Full = refl
refusal-back Busy = refl
refusal-back Eight = refl

pub refusal_number_one : (r s : Refusal) → refusal_number r ≡ refusal_number s → r ≡ s
refusal_number_one = once refusal_number refusal_of refusal-back

-- ---- a result, whose values each give something else

result_for : {A : Type 0} → (Giving → A) → Said Giving → Result A Refusal
result_for g (refused n) = Err (refusal_of n)
result_for g (gave x) = Ok (g x)

result_back : {A : Type 0} (f : A → Giving) (g : Giving → A) → ((a : A) → g (f a) ≡ a) → (r : Result A Refusal) → result_for g (said f r) ≡ r
unfolding result_for said
result_back f g back (Ok x) = ap Ok (back x)
result_back f g back (Err why) = ap Err (refusal-back why)

pub said_one : {A : Type 0} (f : A → Giving) (g : Giving → A) → ((a : A) → g (f a) ≡ a) → (a b : Result A Refusal) → said f a ≡ said f b → a ≡ b
said_one f g back = once (said f) (result_for g) (result_back f g back)

-- an answer, by what it gives
answer_for : Giving → Answer
answer_for done = Done
answer_for (bytes n) = Length n
answer_for (reads w) = Word w

answer-back : (a : Answer) → answer_for (giving a) ≡ a
unfolding answer_for
answer-back Done = refl
answer-back (Length n) = refl
answer-back (Word w) = refl

pub answer_said_one : (a b : Result Answer Refusal) → answer_said a ≡ answer_said b → a ≡ b
answer_said_one = said_one giving answer_for answer-back

-- ---- a reply

failure_of : ℕ → Failure
failure_of n = get_or (failure.Asleep ∷ failure.Outside ∷ failure.Nothing ∷ failure.Spent ∷ []) (n - 0x38) failure.Asleep

failure-back : (f : Failure) → failure_of (failure_number f) ≡ f
unfolding failure_of failure_number
failure-back failure.Asleep = refl
failure-back failure.Outside = refl
failure-back failure.Nothing = refl
failure-back failure.Spent = refl

pub failure_number_one : (f g : Failure) → failure_number f ≡ failure_number g → f ≡ g
failure_number_one = once failure_number failure_of failure-back

reply_for : Said Meant → Result Reply Failure
reply_for (refused n) = Err (failure_of n)
reply_for (gave success) = Ok Success
reply_for (gave report) = Ok Report
reply_for (gave (value id v)) = Ok (Value id v)
reply_for (gave (block s)) = Ok (Block s)

reply-back : (r : Result Reply Failure) → reply_for (reply_said r) ≡ r
unfolding reply_for reply_said
reply-back (Ok Success) = refl
reply-back (Ok Report) = refl
reply-back (Ok (Value id v)) = refl
reply-back (Ok (Block s)) = refl
reply-back (Err f) = ap Err (failure-back f)

pub reply_said_one : (r s : Result Reply Failure) → reply_said r ≡ reply_said s → r ≡ s
reply_said_one = once reply_said reply_for reply-back

-- ---- what a promise leaves open: nothing

each : {A S P L : Type 0} (f : A → S) → ((a b : A) → f a ≡ f b → a ≡ b) → (a b : A) (p q : P) (l m : L) {x : Out S P L}
    → out (f a) p l ≡ x → out (f b) q m ≡ x → (a ≡ b) × (p ≡ q) × (l ≡ m)
each {A} {S} {P} {L} f one a b p q l m h k =
    let e : ◌≡◌ {A = Out S P L} (out (f a) p l) (out (f b) q m) = h ∙ sym k in
    (one a b (ap (λ (o : Out S P L). o.said) e), ap (λ (o : Out S P L). o.pod) e, ap (λ (o : Out S P L). o.lent) e)

-- for every call whose values each give something else, whatever it is lent
pub decided : {A P L : Type 0} (f : A → Giving) (g : Giving → A) → ((a : A) → g (f a) ≡ a)
    → (a b : Result A Refusal) (p q : P) (l m : L) {x : Out (Said Giving) P L} → out (said f a) p l ≡ x → out (said f b) q m ≡ x
    → (a ≡ b) × (p ≡ q) × (l ≡ m)
decided f g back = each (said f) (said_one f g back)

-- so for the calls that answer
pub answer_decided : {P L : Type 0} (a b : Result Answer Refusal) (p q : P) (l m : L) {x : Out (Said Giving) P L} → out (answer_said a) p l ≡ x
    → out (answer_said b) q m ≡ x → (a ≡ b) × (p ≡ q) × (l ≡ m)
answer_decided = each answer_said answer_said_one

-- for the calls whose values all say done, and are shown in place of what is lent
pub shown_decided : {A P : Type 0} (k : Result A Refusal → A) → ((a : A) → k (Ok a) ≡ a) → (a b : Result A Refusal) (p q : P)
    {x : Out (Said Giving) P A} → out (said (λ _. done) a) p (k a) ≡ x → out (said (λ _. done) b) q (k b) ≡ x → (a ≡ b) × (p ≡ q)
unfolding said
shown_decided {A} {P} k shows (Ok a) (Ok b) p q h i =
    let e : ◌≡◌ {A = Out (Said Giving) P A} (out (gave done) p (k (Ok a))) (out (gave done) q (k (Ok b))) = h ∙ sym i in
    (ap Ok (sym (shows a) ∙ ap (λ (o : Out (Said Giving) P A). o.lent) e ∙ shows b), ap (λ (o : Out (Said Giving) P A). o.pod) e)
shown_decided {A} {P} k shows (Ok a) (Err v) p q h i =
    let e : ◌≡◌ {A = Out (Said Giving) P A} (out (gave done) p (k (Ok a))) (out (refused (refusal_number v)) q (k (Err v))) = h ∙ sym i in
    let s : ◌≡◌ {A = Said Giving} (gave done) (refused (refusal_number v)) = ap (λ (o : Out (Said Giving) P A). o.said) e in cc
shown_decided {A} {P} k shows (Err v) (Ok b) p q h i =
    let e : ◌≡◌ {A = Out (Said Giving) P A} (out (refused (refusal_number v)) p (k (Err v))) (out (gave done) q (k (Ok b))) = h ∙ sym i in
    let s : ◌≡◌ {A = Said Giving} (refused (refusal_number v)) (gave done) = ap (λ (o : Out (Said Giving) P A). o.said) e in cc
shown_decided {A} {P} k shows (Err v) (Err w) p q h i =
    let e : ◌≡◌ {A = Out (Said Giving) P A} (out (refused (refusal_number v)) p (k (Err v))) (out (refused (refusal_number w)) q (k (Err w))) = h ∙ sym i in
    let s : refusal_number v ≡ refusal_number w = let t : ◌≡◌ {A = Said Giving} (refused (refusal_number v)) (refused (refusal_number w)) = ap (λ (o : Out (Said Giving) P A). o.said) e in cc in
    (ap Err (refusal_number_one v w s), ap (λ (o : Out (Said Giving) P A). o.pod) e)

-- and for every command
pub obeyed_decided : {P L : Type 0} (r s : Result Reply Failure) (p q : P) (l m : L) {x : Out (Said Meant) P L} → out (reply_said r) p l ≡ x
    → out (reply_said s) q m ≡ x → (r ≡ s) × (p ≡ q) × (l ≡ m)
obeyed_decided = each reply_said reply_said_one
