-- `pieces_step::two_head` meets its contract. Assumes nothing.
use Rattle.pieces_step.proofs.Laws.{two-head}
use borrow.Author.Rules.{rules}
use Rattle.pieces_step.proofs.two_head.Goals as goal

pub returns : goal.returns
returns c =
    (rw (c.copy_from_slice.ensures.after, c.copy_from_slice-2.ensures.after) (two-head c.args.a c.args.q (search rules) (search rules)), search rules)
