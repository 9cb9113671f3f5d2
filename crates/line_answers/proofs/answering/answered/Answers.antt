-- By whether the line is one of lab's own.
use Rattle.std.proofs.Common.{refl, sym, ◌∙◌}
use Rattle.lab_calls.proofs.OneLine.{own_one}
use Rattle.line_answers.specs.Turns.{own, call}
use Rattle.line_answers.proofs.answering.answered.Goals as goal

pub returns-then-own : goal.returns-then-own
returns-then-own c =
    let h = c.own_line.ensures in
    own (sym c.own.ensures ∙ c.if-own.true)
    (record {
      answered = record { pod = h.pod; sizes = h.sizes; load = h.load; rest = refl; printed = h.printed };
      program = refl;
      line = own_one _ _ _ _;
    })

pub returns : goal.returns
returns c = call (sym c.own.ensures ∙ c.if-own.false) c.called.ensures
