use Rattle.report_item.proofs.Laws.{placed-fits, placed-good, placed-bad}
use borrow.Author.Rules.{rules}
use Rattle.report_item.proofs.placed.Goals as goal

pub overflow_mul-result : goal.overflow_mul-result
overflow_mul-result c = let h = placed-fits c.args.form _ c.in-Refused.place c.unit.ensures in search rules

pub overflow_add-result : goal.overflow_add-result
overflow_add-result c = let h = placed-fits c.args.form _ c.in-Refused.place c.unit.ensures in search rules

pub returns-in-Accepted : goal.returns-in-Accepted
returns-in-Accepted c = placed-good _ _ c.in-Accepted.is

pub returns-in-Refused : goal.returns-in-Refused
returns-in-Refused c = placed-bad _ _ _ _ _ c.unit.ensures c.in-Refused.is
