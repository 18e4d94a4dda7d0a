-- `walk::is_asked` meets its contract. Assumes nothing.
use borrow.Author.Tests.{eq-eqb, ne_eqb}
use Rattle.walk.specs.Stepping.{is_asked}
use Rattle.walk.proofs.is_asked.Goals as goal

pub returns-then-p-eq0 : goal.returns-then-p-eq0
unfolding is_asked
returns-then-p-eq0 c = rw (eq-eqb _ _ c.if-p-eq0.true)

pub returns-else-p-eq0 : goal.returns-else-p-eq0
unfolding is_asked
returns-else-p-eq0 c = rw (ne_eqb _ _ c.if-p-eq0.false)
