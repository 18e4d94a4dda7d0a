use Rattle.report_count.proofs.Laws.{step-items}
use borrow.Author.Rules.{rules}
use Rattle.report_count.proofs.stepped.Goals as goal

pub overflow_add-result-2 : goal.overflow_add-result-2
overflow_add-result-2 c = let h = step-items c.requires in search rules
