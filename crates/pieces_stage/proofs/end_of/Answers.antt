-- `pieces_stage::end_of` meets its contract. Assumes nothing.
use Rattle.pieces_stage.proofs.Laws.{end-top, end-inner}
use Rattle.pieces_stage.proofs.end_of.Goals as goal

pub returns-then-p-eq0 : goal.returns-then-p-eq0
returns-then-p-eq0 c = search end-top

pub returns : goal.returns
returns c = search end-inner
