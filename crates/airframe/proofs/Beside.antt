-- What is read beside each step, and that with nothing on its way nothing is.
-- Assumes nothing.
use Prim.Native.Nat.{ℕ}
use mathlib.Core.Path.{◌≡◌, refl}
use Rattle.rows.proofs.Bool.{by-test}
use Rattle.airframe.specs.declared.Left.{Left}
use Rattle.airframe.specs.declared.Sending.TheVariants.{Awaiting}
use Rattle.airframe.specs.Sending.{Came, silence, answer, unanswered, Outcome, read_in, heard_of}
use Rattle.airframe.specs.Statements.{ReadBeside}

-- whether it goes unanswered or not
beside : (code : ℕ) (left : Left) (x : Came) → (heard_of (Awaiting code left) x).meant ≡ read_in code x
unfolding heard_of
beside code left x = by-test (λ (o : Outcome). o.meant ≡ read_in code x) (unanswered code x) (λ _. refl) (λ _. refl)

pub read-beside : ReadBeside
unfolding heard_of
read-beside =
    record {
      an_answer = λ code left a. beside code left (answer a);
      no_answer = λ code left. beside code left silence;
      not_awaited = λ x. refl;
    }
