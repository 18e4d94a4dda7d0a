-- `writing::plan_item` meets its contract: refused or not. Assumes nothing.
use mathlib.Core.Path.{sym}
use Rattle.writing.proofs.Plans.{plan-refused, plan-made, unrefused-able}
use Rattle.writing.proofs.plan_item.Goals as goal

pub returns-in-Some : goal.returns-in-Some
returns-in-Some c = plan-refused _ _ _ _ _ (rw c.name_of-n.ensures at c.in-Some.ensures)

pub returns : goal.returns
returns c =
    let n = c.name_of-n.ensures in
    let r = rw n at c.in_default.ensures in
    rw (rw n at c.planned_of-planned.ensures, (rw n at c.head_bytes-head.ensures) (unrefused-able _ _ _ _ (sym r))) (plan-made _ _ _ _ r)
