-- `writing_head::variable_head` meets its contract: four digits, two of a small form. Assumes nothing.
use Rattle.writing_head.proofs.Heads.{small-head, large-head}
use Rattle.writing_head.proofs.variable_head.Goals as goal

pub returns-then-head-eq1 : goal.returns-then-head-eq1
returns-then-head-eq1 c = λ l. small-head _ _ _ _ _ c.digit-d.ensures.0 c.if-head-eq1.true (l c.if-head-eq1.true) _ c.digit-c.ensures.0

pub returns : goal.returns
returns c =
    λ _. large-head _ _ _ _ _ c.digit-d.ensures.0 c.if-head-eq1.false _ _ _ c.digit-a.ensures.0 c.digit-b.ensures.0 c.digit-c.ensures.0
