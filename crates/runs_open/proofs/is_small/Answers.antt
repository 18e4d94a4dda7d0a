-- `runs_open::is_small` meets its contract. Assumes nothing.
use borrow.Author.Tests.{eq-eqb, ne_eqb}
use Rattle.format.specs.Registry.{is_group}
use Rattle.runs.specs.Plain.{small_by}
use Rattle.runs_open.proofs.is_small.Goals as goal

pub returns-then-a-ne62 : goal.returns-then-a-ne62
unfolding small_by
returns-then-a-ne62 c = rw (ne_eqb _ _ c.if-a-ne62.true)

pub returns : goal.returns
unfolding small_by is_group
returns c = rw (eq-eqb _ _ c.if-a-ne62.false)
