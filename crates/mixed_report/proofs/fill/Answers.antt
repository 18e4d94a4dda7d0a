-- `mixed_report::fill` meets its contract. Assumes nothing.
use Rattle.mixed_report.proofs.Laws.{ends_last}
use Rattle.mixed_report.proofs.fill.Goals as goal

pub returns : goal.returns
returns c = search ends_last
