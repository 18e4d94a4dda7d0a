-- `indexed_fit::ondex_right` meets its contract. Assumes nothing.
use borrow.Author.Tests.{ne_eqb}
use Rattle.format.specs.Judging.{ondex_right}
use Rattle.indexed_fit.proofs.ondex_right.Goals as goal

pub returns-then-c-eq0 : goal.returns-then-c-eq0
unfolding ondex_right
returns-then-c-eq0 c = rw c.if-c-eq0.true

pub returns : goal.returns
unfolding ondex_right
returns c = rw (ne_eqb _ _ c.if-c-eq0.false)
