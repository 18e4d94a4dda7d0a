-- `pieces_step::framing` meets its contract. Assumes nothing.
use Rattle.pieces_step.proofs.Laws.{step_value, step-passed, step-second, step-first}
use Rattle.pieces_step.proofs.framing.Goals as goal

pub returns-then-g : goal.returns-then-g
returns-then-g c = λ b. search step_value

pub returns-then-g-at : goal.returns-then-g-at
returns-then-g-at c = λ b. search (step-passed, c.passed.ensures)

pub returns-then-at-g : goal.returns-then-at-g
returns-then-at-g c = λ b. search (step-second, c.at_second.ensures b)

pub returns : goal.returns
returns c = λ b. search (step-first, c.at_first.ensures b)
