-- `instalments_walk::text_pause` meets its contract. Assumes nothing.
use Rattle.instalments.specs.Instalments.{text_pause}
use Rattle.instalments_walk.proofs.text_pause.Goals as goal

pub returns-in-Spent : goal.returns-in-Spent
unfolding text_pause
returns-in-Spent c = rw c.in-Spent.is

pub returns-in-End : goal.returns-in-End
unfolding text_pause
returns-in-End c = rw c.in-End.is

pub returns-in-Refused : goal.returns-in-Refused
unfolding text_pause
returns-in-Refused c = rw c.in-Refused.is
