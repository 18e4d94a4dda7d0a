-- `indexed_code::plan` meets its contract: 6, or by the row. Assumes nothing.
use Rattle.indexed_name.specs.Names.{as_named}
use Rattle.indexed_name.proofs.Names.{few}
use Rattle.indexed_code.proofs.Plans.{unknown-plan}
use Rattle.indexed_code.proofs.plan.Goals as goal

pub returns-in-None : goal.returns-in-None
unfolding as_named
returns-in-None c = unknown-plan _ _ _ _ (rw c.in-None.is at c.name_of-named.ensures)

pub returns-in-Some : goal.returns-in-Some
unfolding as_named
returns-in-Some c =
    let name = rw c.in-Some.is at c.name_of-named.ensures in
    rw (← name) (c.plan_row.ensures (few _ _ name))
