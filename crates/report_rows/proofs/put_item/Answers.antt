use Rattle.report_rows.proofs.Laws.{item-good, item-bad}
use Rattle.report_rows.proofs.put_item.Goals as goal

pub returns-in-Accepted : goal.returns-in-Accepted
returns-in-Accepted c = item-good _ _ _ _ _ _ _ c.in-Accepted.is c.put_row.ensures

pub returns-in-Refused : goal.returns-in-Refused
returns-in-Refused c = item-bad _ _ _ _ _ _ _ _ _ c.in-Refused.is c.put_row-in-Refused.ensures c.put_refusal.ensures
