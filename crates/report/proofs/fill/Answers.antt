use Rattle.report.proofs.Laws.{ends_last}
use Rattle.report.proofs.fill.Goals as goal

pub returns : goal.returns
returns c = search ends_last
