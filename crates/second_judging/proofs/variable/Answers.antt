-- `second_judging::variable` meets its contract. Assumes nothing.
use Rattle.second_judging.proofs.Judging.{variable-is}
use Rattle.second_judging.proofs.variable.Goals as goal

pub returns : goal.returns
returns c = search variable-is
