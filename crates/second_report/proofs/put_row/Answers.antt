-- `second_report::put_row` meets its contract. Assumes nothing.
use Rattle.second_report.proofs.Counts.{row_is}
use Rattle.second_report.proofs.put_row.Goals as goal

pub returns : goal.returns
returns c = search row_is
