-- Two replies to one command that tell the same are the same.
-- Assumes nothing.
use Prim.Native.Nat.{ℕ}
use native.Mathlib.Omega.{arith}
use mathlib.Core.Path.{◌≡◌, refl, sym}
use Rattle.rows.specs.Rows.{Said, refused, gave, Out, out, given}
use Rattle.rows.proofs.Laws.{ran-case}
use Rattle.packets.specs.declared.Command.{Command}
use Rattle.packets.specs.declared.Command.TheVariants.{Initialise, Status, Update, Write, Read, Priority, Data, Shutdown}
use Rattle.rules.specs.declared.Pod.{Pod}
use Rattle.rules.specs.State.{Lent}
use Rattle.rules.specs.Obey.{Meant, success, report, value, block, shut, checks_of, done_by, obey_of}
use Rattle.airframe.specs.Reading.{Meant as Told, failed}
use Rattle.both_ends.specs.Ends.{told_by, ToldApart}

-- what an outcome tells
abbrev tells : Out (Said Meant) Pod Lent → Told
tells o = told_by o.said o.pod o.lent

abbrev Apart : Out (Said Meant) Pod Lent → Out (Said Meant) Pod Lent → Type 0
Apart o u = tells o ≡ tells u → o.said ≡ u.said

-- no success tells an error
not_failed : (m : Meant) (p : Pod) (l : Lent) (n : ℕ) → told_by (gave m) p l ≡ failed n → ⊥
unfolding told_by
not_failed success p l n e = let z : ◌≡◌ {A = ℕ} 0 1 = cc in omega arith
not_failed report p l n e = let z : ◌≡◌ {A = ℕ} 0 1 = cc in omega arith
not_failed (value id v) p l n e = let z : ◌≡◌ {A = ℕ} 0 1 = cc in omega arith
not_failed (block s) p l n e = let z : ◌≡◌ {A = ℕ} 0 1 = cc in omega arith

-- two successes of one command: a read's are told apart by the value, and any other command's are the same
done-apart : (c : Command) (l m : Lent) (p q : Pod) → tells (given (done_by c l p)) ≡ tells (given (done_by c m q))
    → (given (done_by c l p)).said ≡ (given (done_by c m q)).said
unfolding done_by told_by
done-apart (Initialise f) l m p q e = refl
done-apart Status l m p q e = refl
done-apart (Update f) l m p q e = refl
done-apart (Write id v) l m p q e = refl
done-apart (Read id) l m p q e = cc
done-apart Priority l m p q e = refl
done-apart Data l m p q e = refl
done-apart Shutdown l m p q e = refl

-- an error, and a success, beside any outcome of the same command
module _ (c : Command) (m : Lent) (q : Pod) where
  failed_apart : (n : ℕ) (p : Pod) (l : Lent) → Apart (out (refused n) p l) (obey_of c m q)
  unfolding obey_of told_by
  failed_apart n p l =
      ran-case (Apart (out (refused n) p l)) (checks_of c q) (λ k g e. cc)
      (λ k e. absurd (not_failed (done_by c m q).said (done_by c m q).pod (done_by c m q).lent n (sym e)))

  given-apart : (l : Lent) (p : Pod) → Apart (given (done_by c l p)) (obey_of c m q)
  unfolding obey_of told_by
  given-apart l p =
      ran-case (Apart (given (done_by c l p))) (checks_of c q)
      (λ n g e. absurd (not_failed (done_by c l p).said (done_by c l p).pod (done_by c l p).lent n e))
      (λ k. done-apart c l m p q)

pub told-apart : ToldApart
unfolding obey_of
told-apart c l m p q =
    ran-case (λ (o : Out (Said Meant) Pod Lent). Apart o (obey_of c m (shut q))) (checks_of c (shut p))
    (λ n f. failed_apart c m (shut q) n (shut p) l) (λ k. given-apart c m (shut q) l (shut p))
