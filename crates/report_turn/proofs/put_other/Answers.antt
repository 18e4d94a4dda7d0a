use Rattle.report_general.proofs.Laws.{turned-to}
use Rattle.report_turn.proofs.Laws.{not-long}
use Rattle.report_turn.proofs.put_other.Goals as goal

pub returns-then-p-gt0 : goal.returns-then-p-gt0
returns-then-p-gt0 c = λ L K Φ. c.put_accepted.ensures L K (c.accepted-p.ensures.1 (not-long Φ) L K c.if-p-gt0.true) Φ

pub returns : goal.returns
returns c = λ L K. search turned-to
