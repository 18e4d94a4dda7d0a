-- `pieces_stage::clear` meets its contract. Assumes nothing.
use Rattle.pieces_stage.proofs.Laws.{cleared}
use Rattle.pieces_stage.proofs.clear.Goals as goal

pub returns : goal.returns
returns c = cleared _ _ c.requires c.fill.ensures.len (c.fill.ensures.after (λ y q. q))
