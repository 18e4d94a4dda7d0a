-- `indexed_name::selector_of` meets its contract: no selector, `A`, and any other. Assumes nothing.
use borrow.Author.Tests.{eq-eqb, ne_eqb}
use Rattle.indexed_name.specs.Names.{selector_of}
use Rattle.indexed_name.proofs.selector_of.Goals as goal

pub returns-then-c-eq0 : goal.returns-then-c-eq0
unfolding selector_of
returns-then-c-eq0 c = rw c.if-c-eq0.true

pub returns-then-v-eq0 : goal.returns-then-v-eq0
unfolding selector_of
returns-then-v-eq0 c = rw (← c.sextet-v.ensures, eq-eqb _ _ c.if-v-eq0.true, ne_eqb _ _ c.if-c-eq0.false)

pub returns-else-v-eq0 : goal.returns-else-v-eq0
unfolding selector_of
returns-else-v-eq0 c = rw (ne_eqb _ _ c.if-c-eq0.false, ← c.sextet-v.ensures, ne_eqb _ _ c.if-v-eq0.false)
