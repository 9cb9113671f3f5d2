-- The code, and the numbers behind it.
use Rattle.decimals.specs.Reading.{numbers_in}
use Rattle.aircraft_lines.specs.Asked.{query_in, query_of}
use Rattle.aircraft_lines.proofs.Texts.{the_rest}
use Rattle.aircraft_lines.proofs.asking.query.Goals as goal

pub returns : goal.returns
unfolding query_in query_of
returns c =
    let t = c.args.line.now in
    let read = simp (the_rest t 4) at c.numbers_in.ensures in
    rw (← c.in_ok-code.ensures, ← c.spaced.ensures, c.if-not-spaced.false) (c.asked.ensures (numbers_in _) read)
