-- `registry_master::pad0` meets its contract. Assumes nothing.
use borrow.Author.Tests.{eq-eqb, ne_eqb}
use Rattle.registry_master.specs.Parts.{pad0_opening}
use Rattle.registry_master.proofs.pad0.Goals as goal

pub returns-then-c-eq0 : goal.returns-then-c-eq0
unfolding pad0_opening
returns-then-c-eq0 c = simp (eq-eqb _ _ c.if-b-eq0.true, eq-eqb _ _ c.if-c-eq0.true, c.fixed.ensures)

pub returns-else-c-eq0 : goal.returns-else-c-eq0
unfolding pad0_opening
returns-else-c-eq0 c = simp (eq-eqb _ _ c.if-b-eq0.true, ne_eqb _ _ c.if-c-eq0.false)

pub returns-else-b-eq0 : goal.returns-else-b-eq0
unfolding pad0_opening
returns-else-b-eq0 c = simp (ne_eqb _ _ c.if-b-eq0.false)
