-- `pieces_end::told` meets its contract. Assumes nothing.
use Rattle.pieces_end.proofs.told.Goals as goal

pub returns : goal.returns
returns c = rw c.ended_progress-progress.ensures
