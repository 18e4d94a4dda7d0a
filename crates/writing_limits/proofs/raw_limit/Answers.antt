-- `writing_limits::raw_limit` meets its contract. Assumes nothing.
use borrow.Author.Tests.{eq-eqb, ne_eqb}
use Rattle.format.specs.Writing.{raw_limit}
use Rattle.writing_limits.proofs.raw_limit.Goals as goal

pub returns-then-head-eq1 : goal.returns-then-head-eq1
unfolding raw_limit
returns-then-head-eq1 c = rw (eq-eqb _ _ c.if-head-eq1.true)

pub returns-else-head-eq1 : goal.returns-else-head-eq1
unfolding raw_limit
returns-else-head-eq1 c = rw (ne_eqb _ _ c.if-head-eq1.false)
