-- `is_passed` meets its contract. Assumes nothing.
use Rattle.passing.proofs.Laws.{no_item, longer, by-verdicts}
use Rattle.passing.proofs.is_passed.Goals as goal

pub returns-then-n-eq0 : goal.returns-then-n-eq0
returns-then-n-eq0 c = search no_item

pub returns-then-report-n-ne12 : goal.returns-then-report-n-ne12
returns-then-report-n-ne12 c = search longer

pub returns : goal.returns
returns c = search by-verdicts
