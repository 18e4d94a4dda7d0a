-- `counts` meets its contract. Assumes nothing.
use Rattle.comparison.proofs.Laws.{counts-are}
use Rattle.comparison.proofs.counts.Goals as goal

pub returns : goal.returns
returns c = search counts-are
