-- Any line is a call.
use Rattle.std.proofs.Common.{sym, ◌∙◌}
use Rattle.line_answers.proofs.Sized.{sizes_again, sizes_stay}
use Rattle.line_answers.proofs.asking.next_sizes.Goals as goal

pub returns-in-None : goal.returns-in-None
returns-in-None c = λ bs ws. rw c.in-None.is (sym (sizes_stay c.args.sizes))

pub returns-in-Some : goal.returns-in-Some
returns-in-Some c = λ bs ws. rw c.in-Some.is (c.right_sizes.ensures ∙ sym (sizes_again _ c.args.sizes bs ws))
