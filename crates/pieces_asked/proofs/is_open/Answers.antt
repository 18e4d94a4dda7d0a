-- `pieces_asked::is_open` meets its contract. Assumes nothing.
use Rattle.pieces.specs.Calls.{is_open}
use Rattle.pieces_asked.proofs.is_open.Goals as goal

pub returns-in-Framing : goal.returns-in-Framing
unfolding is_open
returns-in-Framing c = rw c.in-Framing.is

pub returns-in-Unframed : goal.returns-in-Unframed
unfolding is_open
returns-in-Unframed c = rw c.in-Unframed.is

pub returns-in-Ended : goal.returns-in-Ended
unfolding is_open
returns-in-Ended c = rw c.in-Ended.is
