-- `indexed_head::first_unit` meets its contract, shape by shape. Assumes nothing.
use borrow.Author.Tests.{ne_eqb}
use Rattle.indexed_head.specs.Heads.{first_unit}
use Rattle.indexed_head.proofs.first_unit.Goals as goal

pub returns-then-c-eq1 : goal.returns-then-c-eq1
unfolding first_unit
returns-then-c-eq1 c = rw (c.if-c-eq1.true, c.digit.ensures.0)

pub returns-then-c-eq1-2 : goal.returns-then-c-eq1-2
unfolding first_unit
returns-then-c-eq1-2 c =
    rw (ne_eqb _ _ c.if-c-eq1.false, c.if-c-eq1-2.true, c.digit-then-c-eq1-2.ensures.0, c.digit-then-c-eq1-2-2.ensures.0)

pub returns-then-c-eq2 : goal.returns-then-c-eq2
unfolding first_unit
returns-then-c-eq2 c =
    rw (ne_eqb _ _ c.if-c-eq1.false, ne_eqb _ _ c.if-c-eq1-2.false, c.if-c-eq2.true, c.digit-then-c-eq2.ensures.0, c.digit-then-c-eq2-2.ensures.0)

pub returns : goal.returns
unfolding first_unit
returns c =
    rw (
      ne_eqb _ _ c.if-c-eq1.false,
      ne_eqb _ _ c.if-c-eq1-2.false,
      ne_eqb _ _ c.if-c-eq2.false,
      c.digit-2.ensures.0,
      c.digit-3.ensures.0,
    )
