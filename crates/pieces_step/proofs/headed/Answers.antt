-- `pieces_step::headed` meets its contract. Assumes nothing.
use Rattle.pieces_step.proofs.Laws.{headed-none, headed-inner, headed-framed}
use Rattle.pieces_step.proofs.headed.Goals as goal

pub returns-then-w-eq0 : goal.returns-then-w-eq0
returns-then-w-eq0 c = λ n. search (headed-none, c.unframed.ensures)

pub returns-else-place-gt7 : goal.returns-else-place-gt7
returns-else-place-gt7 c = λ n. search (headed-inner, c.refused.ensures)

pub returns-else-size-head : goal.returns-else-size-head
returns-else-size-head c = λ n. search headed-framed
