-- `pieces_stage::settled` meets its contract. Assumes nothing.
use Rattle.pieces_stage.proofs.Laws.{settled_on, settled-end, settled-refused}
use Rattle.pieces_stage.proofs.settled.Goals as goal

pub returns-then-g-w : goal.returns-then-g-w
returns-then-g-w c = λ _ _. search settled_on

pub returns-then-number-eq0 : goal.returns-then-number-eq0
returns-then-number-eq0 c = λ _ _. search settled-end

pub returns : goal.returns
returns c = λ room near. search (settled-refused, c.refused.ensures room near)
