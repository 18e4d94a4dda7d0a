-- `registry::is_indexed` meets its contract. Assumes nothing.
use borrow.Author.Tests.{eq-eqb, ne_eqb}
use Rattle.format.specs.Registry.{is_indexed}
use Rattle.registry.proofs.is_indexed.Goals as goal

pub returns-then-letter-eq10 : goal.returns-then-letter-eq10
unfolding is_indexed
returns-then-letter-eq10 c = rw (eq-eqb _ _ c.if-letter-eq10.true)

pub returns-else-letter-eq10 : goal.returns-else-letter-eq10
unfolding is_indexed
returns-else-letter-eq10 c = rw (ne_eqb _ _ c.if-letter-eq10.false)
