-- `indexed_head::second_unit` meets its contract, shape by shape. Assumes nothing.
use borrow.Author.Tests.{ne_eqb}
use Rattle.indexed_head.specs.Heads.{second_unit}
use Rattle.indexed_head.proofs.second_unit.Goals as goal

pub returns-then-c-eq1 : goal.returns-then-c-eq1
unfolding second_unit
returns-then-c-eq1 c = rw c.if-c-eq1.true

pub returns-then-c-eq2 : goal.returns-then-c-eq2
unfolding second_unit
returns-then-c-eq2 c =
    rw (ne_eqb _ _ c.if-c-eq1.false, c.if-c-eq2.true, c.digit.ensures.0, c.digit-then-c-eq2.ensures.0)

pub returns : goal.returns
unfolding second_unit
returns c =
    rw (
      ne_eqb _ _ c.if-c-eq1.false,
      ne_eqb _ _ c.if-c-eq2.false,
      c.digit-2.ensures.0,
      c.digit-3.ensures.0,
      c.digit-4.ensures.0,
      c.digit-5.ensures.0,
    )
