use borrow.Author.Tests.{eq-eqb, ne_eqb}
use Rattle.judging_fill.specs.Fill.{filled_right}
use Rattle.judging_fill.proofs.filled_right.Goals as goal

pub returns-then-a-ne0 : goal.returns-then-a-ne0
unfolding filled_right
returns-then-a-ne0 c = simp (ne_eqb _ _ c.if-a-ne0.true)

pub returns-then-b-ne0 : goal.returns-then-b-ne0
unfolding filled_right
returns-then-b-ne0 c = simp (eq-eqb _ _ c.if-a-ne0.false, ne_eqb _ _ c.if-b-ne0.true)

pub returns-then-c-ne0 : goal.returns-then-c-ne0
unfolding filled_right
returns-then-c-ne0 c = simp (eq-eqb _ _ c.if-a-ne0.false, eq-eqb _ _ c.if-b-ne0.false, ne_eqb _ _ c.if-c-ne0.true)

pub returns-then-d-ne0 : goal.returns-then-d-ne0
unfolding filled_right
returns-then-d-ne0 c = simp (eq-eqb _ _ c.if-a-ne0.false, eq-eqb _ _ c.if-b-ne0.false, eq-eqb _ _ c.if-c-ne0.false, ne_eqb _ _ c.if-d-ne0.true)

pub returns-else-d-ne0 : goal.returns-else-d-ne0
unfolding filled_right
returns-else-d-ne0 c = simp (eq-eqb _ _ c.if-a-ne0.false, eq-eqb _ _ c.if-b-ne0.false, eq-eqb _ _ c.if-c-ne0.false, eq-eqb _ _ c.if-d-ne0.false)
