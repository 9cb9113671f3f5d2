-- What the answer has of a block, and its count.
use native.Mathlib.Omega.{arith}
use Rattle.tolmezha.proofs.Read.{few_block}
use Rattle.tolmezha.proofs.tolmezha_block.Goals as goal

pub copy-requires : goal.copy-requires
copy-requires c = grind (arith, few_block c.args.answer.now)

pub returns : goal.returns
returns c = grind (arith, few_block c.args.answer.now)

pub overflow_cast-result : goal.overflow_cast-result
overflow_cast-result c = record { sfits = grind (arith, few_block c.args.answer.now) }
