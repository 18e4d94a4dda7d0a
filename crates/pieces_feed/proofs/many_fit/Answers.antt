-- `pieces_feed::many_fit` meets its contract. Assumes nothing.
use Rattle.pieces_feed.proofs.Laws.{nine-few, nine-many, nine-same}
use Rattle.pieces_feed.proofs.many_fit.Goals as goal

pub returns-then-room-n : goal.returns-then-room-n
returns-then-room-n c = let a = c.args in rw (nine-many a.n a.room c.if-room-n.true)

pub returns : goal.returns
returns c = let a = c.args in rw (nine-few a.n a.room c.if-room-n.false) (nine-same a.m a.more)
