-- A line of lab's own prints one line: a newline at its end, and no other.
-- Assumes nothing.
use Prim.Native.Nat.{ℕ, suc, ◌<◌}
use native.Mathlib.Omega.{arith}
use mathlib.Core.Path.{◌≡◌, sym, ap, ◌∙◌}
use mathlib.Core.List.{List, [], ◌∷◌, ◌++◌, append_assoc}
use lib.ListN.{length}
use Rattle.std.specs.Prelude.{Option, Some, None}
use Rattle.rows.proofs.Bool.{by-test}
use Rattle.hexes.specs.Digits.{word_digits}
use Rattle.crc.specs.Crc.{crc_of}
use Rattle.pipe.specs.Output.{held_out}
use Rattle.items.proofs.Inked.{Inked, inked_both, word_inked}
use Rattle.lines.specs.Cut.{before}
use Rattle.lines.proofs.OneLine.{ended, bare_one}
use Rattle.rules.specs.declared.Pod.{Pod}
use Rattle.rules.specs.State.{Lent}
use Rattle.line_calls.specs.declared.Sizes.{Sizes}
use Rattle.lab_sets.specs.declared.Change.{Change}
use Rattle.lab_sets.specs.declared.Change.TheVariants.{Cell, Value, Exchange, Address, Transfer, Thing}
use Rattle.lab_lines.specs.Asked.{change_in}
use Rattle.decimals.specs.Printing.{spelled, naturals}
use Rattle.decimals.proofs.Spell.{spelled_inked}
use Rattle.lab_shows.specs.Shown.{front_numbers, back_numbers, spelled_words, shown_checks, out_numbers, shown_output, shown_list, shown_text}
use Rattle.lab_calls.specs.Own.{is_show, letter_of, Leaves, own_of}

words_inked : (ws : List ℕ) → Inked (spelled_words ws)
unfolding spelled_words
words_inked [] = tt
words_inked (w ∷ ws) = (omega arith, inked_both (word_digits w) (spelled_words ws) (word_inked w) (words_inked ws))

shown_one : (p : Pod) (l : Lent) → suc (before (shown_text p l)) ≡ length (shown_text p l)
unfolding shown_text shown_output shown_list
shown_one p l =
    let n = spelled (front_numbers p ++ back_numbers p) in
    let w = spelled_words (shown_checks p l) in
    let o = spelled (naturals (out_numbers p)) ++ spelled_words (crc_of (held_out p.pipe.output) ∷ []) in
    let k = spelled (naturals p.params.missing) in
    let e : 86 ∷ (n ++ (w ++ (o ++ (k ++ (10 ∷ []))))) ≡ (86 ∷ (n ++ (w ++ (o ++ k)))) ++ (10 ∷ []) =
    ap (λ (t : List ℕ). 86 ∷ t)
    (ap (λ (t : List ℕ). n ++ (w ++ t)) (sym (append_assoc o k (10 ∷ [])))
    ∙ ap (λ (t : List ℕ). n ++ t) (sym (append_assoc w (o ++ k) (10 ∷ [])))
    ∙ sym (append_assoc n (w ++ (o ++ k)) (10 ∷ []))) in
    let output = inked_both (spelled (naturals (out_numbers p))) _ (spelled_inked (naturals (out_numbers p))) (words_inked _) in
    let behind = inked_both o k output (spelled_inked (naturals p.params.missing)) in
    let inked = inked_both n (w ++ (o ++ k)) (spelled_inked (front_numbers p ++ back_numbers p)) (inked_both w (o ++ k) (words_inked (shown_checks p l)) behind) in
    ap (λ (t : List ℕ). suc (before t)) e ∙ ended (86 ∷ (n ++ (w ++ (o ++ k)))) (omega arith, inked) ∙ sym (ap length e)

letter_inked : (c : Option Change) → 10 < letter_of c
unfolding letter_of
letter_inked None = omega arith
letter_inked (Some (Cell c n)) = omega arith
letter_inked (Some (Value id v)) = omega arith
letter_inked (Some (Exchange x)) = omega arith
letter_inked (Some (Address g)) = omega arith
letter_inked (Some (Transfer t)) = omega arith
letter_inked (Some (Thing t n)) = omega arith

pub own_one : (t : List ℕ) (p : Pod) (s : Sizes) (l : Lent) → suc (before (own_of t p s l).text) ≡ length (own_of t p s l).text
unfolding own_of
own_one t p s l =
    by-test (λ (x : Leaves). suc (before x.text) ≡ length x.text) (is_show t) (λ _. shown_one p l) (λ _. bare_one (letter_of (change_in t)) (letter_inked (change_in t)))
