-- What is printed behind `P` is read again, by session and by aircraft.
-- Assumes nothing.
use Prim.Native.Nat.{ℕ, suc}
use native.Mathlib.Omega.{arith}
use mathlib.Core.Path.{◌≡◌, refl, sym, ap, ◌∙◌}
use mathlib.Core.Bool.{true}
use mathlib.Core.List.{List, [], ◌∷◌, ◌++◌, append_cancel_right}
use lib.ListN.{length}
use borrow.Author.Tests.{ne_eqb}
use Rattle.airframe.specs.Statements.{AllBytes}
use Rattle.items.specs.Text.{spell, items_read, bytes_in}
use Rattle.items.specs.Printed.{answer_line, bytes_line}
use Rattle.items.proofs.Laws.{Under, bytes_back}
use Rattle.items.proofs.Spelled.{spell-length}
use Rattle.lines.specs.Asked.{packet, packet_in, line_of}
use Rattle.aircraft_lines.specs.Letters.{letter_p}
use Rattle.aircraft_lines.specs.Asked.{hears, answer_in, ask_in}
use Rattle.aircraft_lines.specs.Statements.{SessionReads, AnswerHeard, NoBytes}

under : (bs : List ℕ) → AllBytes bs → Under 256 bs
under [] h = tt
under (b ∷ bs) h = (h 0, under bs (λ k. h (suc k)))

-- a line less its newline
less_newline : (b : ℕ) (bs t : List ℕ) → bytes_line letter_p (b ∷ bs) ≡ t ++ (10 ∷ []) → t ≡ letter_p ∷ spell (b ∷ bs)
unfolding bytes_line answer_line
less_newline b bs t e = append_cancel_right t (letter_p ∷ spell (b ∷ bs)) (10 ∷ []) (sym e)

session_text : (bs : List ℕ) → bytes_in (spell bs) ≡ items_read bs true → (line_of (letter_p ∷ spell bs)).asked ≡ packet bs
unfolding line_of packet_in
session_text bs e = rw e

answer_text : (b : ℕ) (bs : List ℕ) → bytes_in (spell (b ∷ bs)) ≡ items_read (b ∷ bs) true → ask_in (letter_p ∷ spell (b ∷ bs)) ≡ hears (b ∷ bs)
unfolding ask_in answer_in
answer_text b bs e =
    let long = ne_eqb (length (letter_p ∷ spell (b ∷ bs))) 3 (λ d. omega (arith, spell-length (b ∷ bs))) in
    rw (long, e)

pub session_reads : SessionReads
session_reads b bs t h e =
    ap (λ (x : List ℕ). (line_of x).asked) (less_newline b bs t e) ∙ session_text (b ∷ bs) (bytes_back (b ∷ bs) (under (b ∷ bs) h))

pub answer-heard : AnswerHeard
answer-heard b bs t h e = ap ask_in (less_newline b bs t e) ∙ answer_text b bs (bytes_back (b ∷ bs) (under (b ∷ bs) h))

pub no_bytes : NoBytes
unfolding ask_in answer_in bytes_in
no_bytes = (refl, refl)
