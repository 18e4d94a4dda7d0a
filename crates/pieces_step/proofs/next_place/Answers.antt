-- `pieces_step::next_place` meets its contract. Assumes nothing.
use Rattle.pieces_step.proofs.Laws.{leads-on}
use Rattle.pieces_step.proofs.next_place.Goals as goal

pub returns : goal.returns
returns c = search (leads-on, c.advance.ensures)
