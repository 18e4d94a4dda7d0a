-- `pieces_step::one_head` meets its contract. Assumes nothing.
use Rattle.pieces_step.proofs.Laws.{one-head}
use borrow.Author.Rules.{rules}
use Rattle.pieces_step.proofs.one_head.Goals as goal

pub returns : goal.returns
returns c = rw c.copy_from_slice.ensures.after (one-head c.args.q (search rules))
