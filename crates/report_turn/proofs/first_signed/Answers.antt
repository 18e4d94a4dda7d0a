use Rattle.report_turn.proofs.Laws.{none-next}
use Rattle.report_turn.proofs.first_signed.Goals as goal

pub returns-then-g-eq0 : goal.returns-then-g-eq0
returns-then-g-eq0 c = none-next
