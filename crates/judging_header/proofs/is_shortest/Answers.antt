use borrow.Author.Tests.{eq-eqb, ne_eqb}
use Rattle.format.specs.Judging.{is_shortest}
use Rattle.judging_header.proofs.is_shortest.Goals as goal

pub returns-then-h-eq1 : goal.returns-then-h-eq1
unfolding is_shortest
returns-then-h-eq1 c = simp (eq-eqb _ _ c.if-h-eq1.true)

pub returns-else-h-eq1 : goal.returns-else-h-eq1
unfolding is_shortest
returns-else-h-eq1 c = simp (ne_eqb _ _ c.if-h-eq1.false)
