-- What is built and refused in numbers, by what is built and refused.
-- Assumes nothing.
use Prim.Native.Nat.{ℕ, zero, suc, ◌^◌, ◌<◌, ◌≤◌}
use native.Mathlib.Omega.{arith}
use mathlib.Core.Path.{◌≡◌, refl, sym, ap, ◌∙◌}
use mathlib.Core.Bool.{Bool, true, ◌&&◌, and-true, and-false}
use mathlib.Core.List.{List}
use borrow.Author.Tests.{le-ltb, lt-ltb}
use lib.Dec.{ltb}
use lib.IntN.{pos, negsuc}
use lib.ListN.{length, take}
use Rattle.rows.specs.Rows.{Said, refused, gave, ran}
use Rattle.rows.proofs.Bool.{split, and_left}
use Rattle.packets.specs.declared.Command.{Command}
use Rattle.packets.specs.declared.Parsed.TheVariants.{Asked}
use Rattle.packets.specs.Reading.{packet_read}
use Rattle.packets.specs.Answers.{command_bytes}
use Rattle.airframe.specs.declared.Form.{Form}
use Rattle.airframe.specs.declared.Form.TheVariants.{Taken, Failed}
use Rattle.airframe.specs.Building.{command_fits, command_wide, first_fits, acknowledgement_bytes, build_of, command_built, acknowledgement_built}
use Rattle.airframe.proofs.Carried.{built, few_bytes, built_is_read}
use Rattle.airframe.proofs.Acknowledged.{five_bytes, acknowledged_is_read}
use Rattle.airframe.proofs.Refuses.{refuses}
use Rattle.airframe.proofs.Typed.{typed_wide}
use Rattle.tolmezha.specs.Numbers.{answered, command_answered, form_wide, acknowledgement_answered}
use Rattle.tolmezha.specs.Statements.{SameDefinition, LibraryIsRead, RefusesBy, LibraryRefuses}
use Rattle.tolmezha.proofs.Built.{command-outside, acknowledgement-outside}

form_wide_lem : (form : Form) → ((e : ℕ) → form ≡ Failed e → e < 2 ^ 8) → form_wide form ≡ true
form_wide_lem Taken h = refl
form_wide_lem (Failed e) h = lt-ltb e (2 ^ 8) (h e refl)

pub same_definition : SameDefinition
unfolding command_answered acknowledgement_answered command_built acknowledgement_built
same_definition =
    record {
      commands = λ c room t. rw (typed_wide c t);
      too_large = λ c room t. sym (command-outside c room t);
      acknowledgements = λ f form room h. rw (form_wide_lem form h, and-true (first_fits f));
      no_error = λ f e room h. sym (acknowledgement-outside f (Failed e) room (rw (le-ltb e (2 ^ 8) h) (and-false (first_fits f))));
    }

-- ---- the numbers of what was said

pos_apart : {m n : ℕ} → pos m ≡ negsuc n → ⊥
pos_apart e = let z : ◌≡◌ {A = ℕ} 0 1 = cc in omega arith

pos_same : {m n : ℕ} → pos m ≡ pos n → m ≡ n
pos_same e = cc

negsuc_same : {m n : ℕ} → negsuc m ≡ negsuc n → m ≡ n
negsuc_same e = cc

said_refused : (s : Said ℕ) (k : ℕ) → answered s ≡ negsuc k → s ≡ refused (suc k)
said_refused (gave n) k e = absurd (pos_apart e)
said_refused (refused zero) k e = absurd (pos_apart e)
said_refused (refused (suc n)) k e = ap (λ (m : ℕ). refused (suc m)) (negsuc_same e)

module _ (inside : Bool) (bytes room : List ℕ) where
  said_gave : (n : ℕ) → answered (build_of inside bytes room).said ≡ pos n → (build_of inside bytes room).said ≡ gave n
  unfolding build_of ran
  said_gave n e =
      split inside
      (λ t.
      split (ltb (length room) 25)
      (λ s. absurd (pos_apart (sym (rw (t, s) at e))))
      (λ l. rw (t, l) (ap gave (pos_same (rw (t, l) at e)))))
      (λ f. absurd (pos_apart (sym (rw f at e))))

  refuses_by : length bytes ≤ 25 → RefusesBy inside bytes room (answered (build_of inside bytes room).said) (build_of inside bytes room).lent
  refuses_by few =
      let said = (build_of inside bytes room).said in
      let r = refuses inside bytes room few in
      record {
        outside = (λ e. r.outside.0 (said_refused said 19 e), λ e. ap answered (r.outside.1 e));
        short = (λ e. r.short.0 (said_refused said 23 e), λ e. ap answered (r.short.1 e));
        kept = λ n e. r.kept (suc n) (said_refused said n e);
        given = λ i e. let g = r.given i e in (ap answered g.0, g.1);
      }

-- ---- the statements

pub library_refuses : LibraryRefuses
unfolding command_answered acknowledgement_answered
library_refuses =
    record {
      commands = λ c room. refuses_by (command_wide c && command_fits c) (command_bytes c) room (few_bytes c);
      acknowledgements = λ f form room. refuses_by (first_fits f && form_wide form) (acknowledgement_bytes f form) room (five_bytes f form);
    }

-- what is built by the numbers is built
command-given : (c : Command) (room : List ℕ) (n : ℕ) → (command_answered c room).said ≡ pos n → packet_read (take n (command_answered c room).lent) ≡ Asked c
unfolding command_answered command_built
command-given c room n e =
    let inside = command_wide c && command_fits c in
    let said = said_gave inside (command_bytes c) room n e in
    let wide = and_left (command_wide c) (command_fits c) (built inside (command_bytes c) room n (few_bytes c) said).0 in
    rw wide (built_is_read c room n wide (rw wide at said))

acknowledgement-given : (f : ℕ) (form : Form) (room : List ℕ) (n : ℕ) → (acknowledgement_answered f form room).said ≡ pos n
    → ((acknowledgement_built f form room).said ≡ gave n) × ((acknowledgement_answered f form room).lent ≡ (acknowledgement_built f form room).lent)
unfolding acknowledgement_answered acknowledgement_built
acknowledgement-given f form room n e =
    let inside = first_fits f && form_wide form in
    let said = said_gave inside (acknowledgement_bytes f form) room n e in
    let both = (built inside (acknowledgement_bytes f form) room n (five_bytes f form) said).0 in
    let same : inside ≡ first_fits f = both ∙ sym (and_left (first_fits f) (form_wide form) both) in
    (rw same at said, rw same)

pub library_is_read : LibraryIsRead
library_is_read =
    record {
      commands = command-given;
      taken = λ f room n e. let g = acknowledgement-given f Taken room n e in ap (λ (l : List ℕ). packet_read (take n l)) g.1 ∙ acknowledged_is_read.as_taken f room n g.0;
      failed = λ f e room n s. let g = acknowledgement-given f (Failed e) room n s in ap (λ (l : List ℕ). packet_read (take n l)) g.1 ∙ acknowledged_is_read.as_failed f e room n g.0;
    }
