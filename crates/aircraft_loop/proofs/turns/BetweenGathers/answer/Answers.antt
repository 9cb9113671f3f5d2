-- The line that is read says what the text asks, and its answer is that of the promise; it leaves the output as long.
use borrow.Author.Rules.{rules}
use mathlib.Core.Path.{◌∙◌}
use Rattle.aircraft_lines.specs.Asked.{ask_in}
use Rattle.aircraft_lines.proofs.Heard.{heard_front}
use Rattle.aircraft_loop.proofs.turns.BetweenGathers.answer.Goals as goal

pub returns-clause-answers : goal.returns-clause-answers
returns-clause-answers c =
    let a = c.args in
    let line = c.read_line-line.ensures in
    c.answer.ensures (ask_in a.text.now)
    (record {
      said = line.value;
      heard = rw line.bytes_after (heard_front a.text.now a.self.now.bytes (search rules));
    })

pub returns-clause-fine : goal.returns-clause-fine
returns-clause-fine c = (returns-clause-answers c).text.room ∙ c.requires.fine
