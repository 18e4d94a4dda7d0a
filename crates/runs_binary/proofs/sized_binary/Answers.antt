-- `runs_binary::sized_binary` meets its contract. Assumes nothing.
use Rattle.runs_binary.proofs.Laws.{binary-past}
use Rattle.runs_binary.proofs.sized_binary.Goals as goal

pub returns-then-s-at : goal.returns-then-s-at
returns-then-s-at c = binary-past _ _ _ c.if-s-at.true
