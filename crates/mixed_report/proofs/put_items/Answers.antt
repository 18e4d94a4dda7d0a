-- `mixed_report::put_items` meets its contract. Assumes nothing.
use Rattle.mixed_report.proofs.Laws.{begun, ended}
use Rattle.mixed_report.proofs.put_items.Goals as goal

pub put_all-requires : goal.put_all-requires
put_all-requires c = search begun

pub returns : goal.returns
returns c = search ended
