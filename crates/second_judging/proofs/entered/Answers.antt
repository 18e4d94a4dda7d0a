-- `second_judging::entered` meets its contract. Assumes nothing.
use Rattle.second_judging.proofs.Judging.{entered-is}
use Rattle.second_judging.proofs.entered.Goals as goal

pub returns : goal.returns
returns c = search entered-is
