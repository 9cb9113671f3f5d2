-- By how many numbers there are.
use Prim.Native.Nat.{ℕ}
use native.Mathlib.Omega.{arith}
use mathlib.Core.Path.{◌≡◌, sym, ap, ◌∙◌}
use mathlib.Core.Bool.{and-false}
use borrow.Author.Tests.{ne_eqb}
use mathlib.Core.List.{List, [], ◌∷◌}
use lib.Dec.{eqb}
use lib.ListN.{length}
use Rattle.std.specs.Prelude.{Option}
use Rattle.decimals.specs.declared.Number.{Number}
use Rattle.decimals.specs.declared.Numbers.{Numbers}
use Rattle.decimals.specs.Reading.{numbers_read}
use Rattle.aircraft_lines.specs.Asked.{number_at}
use Rattle.aircraft_lines.proofs.Numbered.{nine_firsts, two_firsts, one_first}
use Rattle.aircraft_lines.proofs.Said.{line_asked, bare_says, none_says}
use Rattle.aircraft_lines.proofs.commands.asked.Goals as goal

count-is : (ns : Numbers) (l : List (Option Number)) → ns ≡ numbers_read l → ns.count ≡ length l
count-is ns l e = ap (λ (x : Numbers). x.count) e

list-is : (ns : Numbers) (l : List (Option Number)) → ns ≡ numbers_read l → ns.list ≡ (numbers_read l).list
list-is ns l e = ap (λ (x : Numbers). x.list) e

pub returns-in-0-default : goal.returns-in-0-default
returns-in-0-default c l e = c.bare.ensures ∙ bare_says c.args.code l (sym (count-is c.args.numbers l e) ∙ c.in-0-default.is-0)

pub returns-in-9-default : goal.returns-in-9-default
returns-in-9-default c l e =
    let nine : length l ≡ 9 = sym (count-is c.args.numbers l e) ∙ c.in-9-default.is-0 in
    c.nine.ensures ∙ ap (line_asked c.args.code) (list-is c.args.numbers l e ∙ nine_firsts l nine)

pub returns-in-2-eq147 : goal.returns-in-2-eq147
returns-in-2-eq147 c l e =
    let i = c.in-2-eq147 in
    c.writes.ensures
    ∙ ap (λ (x : List (Option Number)). line_asked 0x93 (number_at x 0 ∷ number_at x 1 ∷ [])) (list-is c.args.numbers l e)
    ∙ ap (line_asked 0x93) (two_firsts l (sym (count-is c.args.numbers l e) ∙ i.is-0))
    ∙ ap (λ (k : ℕ). line_asked k l) (sym i.is-1)

pub returns-in-1-eq148 : goal.returns-in-1-eq148
returns-in-1-eq148 c l e =
    let i = c.in-1-eq148 in
    c.reads.ensures
    ∙ ap (λ (x : List (Option Number)). line_asked 0x94 (number_at x 0 ∷ [])) (list-is c.args.numbers l e)
    ∙ ap (line_asked 0x94) (one_first l (sym (count-is c.args.numbers l e) ∙ i.is-0))
    ∙ ap (λ (k : ℕ). line_asked k l) (sym i.is-1)

pub returns-in_default : goal.returns-in_default
returns-in_default c l e =
    let two : length l ≡ 2 = sym (count-is c.args.numbers l e) ∙ c.in_default.is-0 in
    none_says c.args.code l (λ z. omega arith) (λ z. omega arith) (rw (ne_eqb c.args.code 0x93 c.in_default.is-1.1) (and-false (eqb (length l) 2))) (rw two)

pub returns-in_default-2 : goal.returns-in_default-2
returns-in_default-2 c l e =
    let one : length l ≡ 1 = sym (count-is c.args.numbers l e) ∙ c.in_default.is-0 in
    none_says c.args.code l (λ z. omega arith) (λ z. omega arith) (rw one) (rw (ne_eqb c.args.code 0x94 c.in_default.is-1.1) (and-false (eqb (length l) 1)))

pub returns-in_default-3 : goal.returns-in_default-3
returns-in_default-3 c l e =
    let n = count-is c.args.numbers l e in
    let i = c.in_default.is-0 in
    none_says c.args.code l (λ z. i.0.0.0.1 (n ∙ z)) (λ z. i.0.0.1 (n ∙ z)) (rw (ne_eqb (length l) 2 (λ z. i.0.1 (n ∙ z)))) (rw (ne_eqb (length l) 1 (λ z. i.1 (n ∙ z))))
