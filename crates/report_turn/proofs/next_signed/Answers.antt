use Rattle.report_turn.proofs.Laws.{none-next, told-next}
use Rattle.report_turn.proofs.next_signed.Goals as goal

pub returns-then-items-stored : goal.returns-then-items-stored
returns-then-items-stored c = none-next

pub returns : goal.returns
returns c = told-next _ c.if-items-stored.false c.signatures.ensures.0 c.signatures.ensures.1
