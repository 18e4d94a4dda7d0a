-- `registry::opening_by` meets its contract. Assumes nothing.
use Rattle.registry.proofs.opening_by.Goals as goal

pub returns-then-indexed : goal.returns-then-indexed
returns-then-indexed c = rw c.if-indexed.true c.opening.ensures

pub returns-else-indexed : goal.returns-else-indexed
returns-else-indexed c = rw c.if-indexed.false c.opening-else-indexed.ensures
