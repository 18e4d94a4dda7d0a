-- `pieces_stage::is_whole` meets its contract. Assumes nothing.
use Rattle.pieces_stage.proofs.Laws.{whole_open, whole-early, whole_here, whole-unframed, whole-ended}
use Rattle.pieces_stage.proofs.is_whole.Goals as goal

pub returns-then-g-ne0 : goal.returns-then-g-ne0
returns-then-g-ne0 c = search whole_open

pub returns-then-g : goal.returns-then-g
returns-then-g c = search whole-early

pub returns-else-g : goal.returns-else-g
returns-else-g c = search whole_here

pub returns-in-Unframed : goal.returns-in-Unframed
returns-in-Unframed c = search whole-unframed

pub returns-in-Ended : goal.returns-in-Ended
returns-in-Ended c = search whole-ended
