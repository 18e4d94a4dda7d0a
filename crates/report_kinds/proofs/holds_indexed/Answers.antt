-- `report_kinds::holds_indexed` meets its contract. Assumes nothing.
use Rattle.report_kinds.specs.Kinds.{holds_indexed}
use Rattle.report_kinds.proofs.holds_indexed.Goals as goal

pub returns-in-Fixed : goal.returns-in-Fixed
unfolding holds_indexed
returns-in-Fixed c = rw c.in-Fixed.is

pub returns-in-Variable : goal.returns-in-Variable
unfolding holds_indexed
returns-in-Variable c = rw c.in-Variable.is

pub returns-in-Group : goal.returns-in-Group
unfolding holds_indexed
returns-in-Group c = rw (c.in-Group.is, c.is_indexed.ensures)

pub returns-in-Genus : goal.returns-in-Genus
unfolding holds_indexed
returns-in-Genus c = rw c.in-Genus.is

pub returns-in-Indexed : goal.returns-in-Indexed
unfolding holds_indexed
returns-in-Indexed c = rw c.in-Indexed.is
