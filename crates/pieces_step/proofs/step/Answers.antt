-- `pieces_step::step` meets its contract. Assumes nothing.
use Rattle.pieces_step.proofs.Laws.{step_by_lem, step-unframed, step-ended}
use Rattle.pieces_step.proofs.step.Goals as goal

pub returns-in-Framing : goal.returns-in-Framing
returns-in-Framing c = λ r b. search (step_by_lem, c.framing.ensures b)

pub returns-in-Unframed : goal.returns-in-Unframed
returns-in-Unframed c = λ r b. search (step-unframed, c.passed.ensures)

pub returns-in-Ended : goal.returns-in-Ended
returns-in-Ended c = λ r b. search (step-ended, c.passed-in-Ended.ensures)
