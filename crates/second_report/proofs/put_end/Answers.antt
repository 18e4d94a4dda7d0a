-- `second_report::put_end` meets its contract. Assumes nothing.
use Rattle.second_report.proofs.Counts.{end_none, end-some}
use Rattle.second_report.proofs.put_end.Goals as goal

pub returns-then-rest-eq0 : goal.returns-then-rest-eq0
returns-then-rest-eq0 c = search end_none

pub returns : goal.returns
returns c = search end-some
