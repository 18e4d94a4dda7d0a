-- `pieces_end::number_at` meets its contract. Assumes nothing.
use Rattle.pieces.specs.Feeding.{number_at}
use Rattle.pieces_end.proofs.number_at.Goals as goal

pub returns-in-Framing : goal.returns-in-Framing
unfolding number_at
returns-in-Framing c = rw c.in-Framing.is

pub returns-in-Unframed : goal.returns-in-Unframed
unfolding number_at
returns-in-Unframed c = rw c.in-Unframed.is

pub returns-in-Ended : goal.returns-in-Ended
unfolding number_at
returns-in-Ended c = rw c.in-Ended.is
