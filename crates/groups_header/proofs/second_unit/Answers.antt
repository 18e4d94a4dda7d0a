-- `groups_header::second_unit` meets its contract. Assumes nothing.
use Rattle.groups_header.proofs.Laws.{second}
use Rattle.groups_header.proofs.second_unit.Goals as goal

pub returns : goal.returns
returns c = second _
