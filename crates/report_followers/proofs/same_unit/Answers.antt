use Rattle.report_followers.proofs.Laws.{unit-text, unit-binary, unit-other}
use Rattle.report_followers.proofs.same_unit.Goals as goal

pub returns-then-same_two : goal.returns-then-same_two
returns-then-same_two c = search unit-text

pub returns-then-same_two-2 : goal.returns-then-same_two-2
returns-then-same_two-2 c = search unit-binary

pub returns-else-same_two : goal.returns-else-same_two
returns-else-same_two c = search unit-other

pub returns-else-same_two-2 : goal.returns-else-same_two-2
returns-else-same_two-2 c = search unit-other
