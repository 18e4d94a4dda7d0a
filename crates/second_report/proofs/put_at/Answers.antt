-- `second_report::put_at` meets its contract. Assumes nothing.
use Rattle.second_report.proofs.Counts.{item-good, item-bad}
use Rattle.second_report.proofs.put_at.Goals as goal

pub returns-in_default : goal.returns-in_default
returns-in_default c = search item-good

pub returns : goal.returns
returns c = search item-bad
