-- `report_last::put_counts` meets its contract. Assumes nothing.
use Rattle.report_last.proofs.Laws.{counts-put}
use Rattle.report_last.proofs.put_counts.Goals as goal

pub returns : goal.returns
returns c = search counts-put
