-- `tables::Tables::restart`: what each call of the rule gave.
use Rattle.std.proofs.Common.{rules}
use Rattle.tables.proofs.Lists.{started}
use Rattle.tables.proofs.Tables.restart.Goals as goal

pub returns-clause-started : goal.returns-clause-started
returns-clause-started c = started c.from_fn-self.result c.from_fn-self.ensures.items.long (λ k h. let a = c.from_fn-self.ensures.items.at k 0 h in search rules)
