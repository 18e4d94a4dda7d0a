-- `writing_limits::text_limit` meets its contract. Assumes nothing.
use borrow.Author.Tests.{eq-eqb, ne_eqb}
use Rattle.format.specs.Writing.{text_limit}
use native.Mathlib.Omega.{arith}
use Rattle.writing_limits.proofs.text_limit.Goals as goal

pub returns-then-head-eq1 : goal.returns-then-head-eq1
unfolding text_limit
returns-then-head-eq1 c = (rw (eq-eqb _ _ c.if-head-eq1.true), omega arith)

pub returns-else-head-eq1 : goal.returns-else-head-eq1
unfolding text_limit
returns-else-head-eq1 c = (rw (ne_eqb _ _ c.if-head-eq1.false), omega arith)
