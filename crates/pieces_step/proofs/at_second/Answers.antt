-- `pieces_step::at_second` meets its contract. Assumes nothing.
use mathlib.Core.List.{◌++◌}
use Rattle.pieces_step.proofs.Laws.{second-headed, near_of}
use borrow.Author.Rules.{rules}
use Rattle.pieces_step.proofs.at_second.Goals as goal

pub returns : goal.returns
returns c = λ b.
    let e = c.framed_by-framed.ensures (c.args.g.header ++ c.args.q) c.two_head-cs.ensures.0 in
    let k = c.headed.ensures (near_of c.args.slots.now c.args.g (c.args.g.header ++ c.args.q) _ c.requires b e) in
    second-headed c.args.slots.now c.args.g _ c.args.q _ _ _ (search rules) c.two_head-cs.ensures.1 c.two_head-cs.ensures.0 e k
