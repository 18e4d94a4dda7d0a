-- `groups_writing::walk_body` meets its contract. Assumes nothing.
use Rattle.groups_writing.proofs.Answers.{budget-fits, walked}
use borrow.Author.Rules.{rules}
use Rattle.groups_writing.proofs.walk_body.Goals as goal

pub overflow_add-n : goal.overflow_add-n
overflow_add-n c = budget-fits c.args.form _ _ c.units-n.ensures (search rules)

pub returns : goal.returns
returns c = walked c.args.form _ _ _ _ _ c.units-n.ensures c.within-w.ensures c.walk_on-walked.ensures
