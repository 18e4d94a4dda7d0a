-- `pieces_step::is_asked` meets its contract. Assumes nothing.
use Rattle.pieces_step.proofs.Laws.{asks-top, asks-inner}
use Rattle.pieces_step.proofs.is_asked.Goals as goal

pub returns-then-p-eq0 : goal.returns-then-p-eq0
returns-then-p-eq0 c = λ slots. search asks-top

pub returns-else-p-eq0 : goal.returns-else-p-eq0
returns-else-p-eq0 c = λ slots. search asks-inner
