-- `walk::ended` meets its contract. Assumes nothing.
use Rattle.walk.proofs.ended.Goals as goal

pub returns-then-tail : goal.returns-then-tail
returns-then-tail c = rw c.if-tail.true

pub returns : goal.returns
returns c = rw c.if-tail.false
