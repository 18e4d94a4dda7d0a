-- `second_judging::fixed` meets its contract. Assumes nothing.
use Rattle.second_judging.proofs.Judging.{fixed-is}
use Rattle.second_judging.proofs.fixed.Goals as goal

pub returns : goal.returns
returns c = search fixed-is
