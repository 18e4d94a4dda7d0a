-- `report_last::refused` meets its contract. Assumes nothing.
use Rattle.report_last.proofs.Laws.{of-whole, of-rest}
use Rattle.report_last.proofs.refused.Goals as goal

pub returns-in-Whole : goal.returns-in-Whole
returns-in-Whole c = search of-whole

pub returns-in-Rest : goal.returns-in-Rest
returns-in-Rest c = search of-rest
