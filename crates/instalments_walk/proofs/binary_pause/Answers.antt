-- `instalments_walk::binary_pause` meets its contract. Assumes nothing.
use Rattle.instalments.specs.Instalments.{binary_pause}
use Rattle.instalments_walk.proofs.binary_pause.Goals as goal

pub returns-in-Spent : goal.returns-in-Spent
unfolding binary_pause
returns-in-Spent c = rw c.in-Spent.is

pub returns-in-End : goal.returns-in-End
unfolding binary_pause
returns-in-End c = rw c.in-End.is

pub returns-in-Refused : goal.returns-in-Refused
unfolding binary_pause
returns-in-Refused c = rw c.in-Refused.is
