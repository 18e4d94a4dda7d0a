-- `report_kinds::is_entered` meets its contract. Assumes nothing.
use Rattle.report_kinds.specs.Kinds.{is_entered}
use Rattle.report_kinds.proofs.is_entered.Goals as goal

pub returns-in-Fixed : goal.returns-in-Fixed
unfolding is_entered
returns-in-Fixed c = rw c.in-Fixed.is

pub returns-in-Variable : goal.returns-in-Variable
unfolding is_entered
returns-in-Variable c = rw c.in-Variable.is

pub returns-in-Group : goal.returns-in-Group
unfolding is_entered
returns-in-Group c = rw c.in-Group.is

pub returns-in-Genus : goal.returns-in-Genus
unfolding is_entered
returns-in-Genus c = rw c.in-Genus.is

pub returns-in-Indexed : goal.returns-in-Indexed
unfolding is_entered
returns-in-Indexed c = rw c.in-Indexed.is
