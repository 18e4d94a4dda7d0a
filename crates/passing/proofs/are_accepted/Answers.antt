-- `are_accepted` meets its contract. Assumes nothing.
use Rattle.passing.proofs.Laws.{none-looked, one_more, one-refused, all-looked}
use Rattle.passing.proofs.are_accepted.Goals as goal

pub loop-i-init : goal.loop-i-init
loop-i-init c = search none-looked

pub returns-then-report-i-ne0 : goal.returns-then-report-i-ne0
returns-then-report-i-ne0 c = search one-refused

pub loop-i-preserved : goal.loop-i-preserved
loop-i-preserved c = search one_more

pub returns : goal.returns
returns c = search all-looked
