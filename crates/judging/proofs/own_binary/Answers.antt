-- `judging::own_binary` meets its contract. Assumes nothing.
use Rattle.format.specs.Judging.{and_then}
use Rattle.judging.specs.Own.{own_by}
use Rattle.judging.proofs.own_binary.Goals as goal

pub returns-in-Fixed : goal.returns-in-Fixed
unfolding own_by and_then
returns-in-Fixed c = rw c.in-Fixed.is c.fixed_checks.ensures

pub returns-in-Variable : goal.returns-in-Variable
unfolding own_by and_then
returns-in-Variable c = rw c.in-Variable.is c.variable_checks.ensures

pub returns-in-Group : goal.returns-in-Group
unfolding own_by
returns-in-Group c = rw c.in-Group.is (rw c.units_behind-units.ensures at c.group_checks.ensures)

pub returns-in-Genus : goal.returns-in-Genus
unfolding own_by
returns-in-Genus c = rw c.in-Genus.is

pub returns-in-Indexed : goal.returns-in-Indexed
unfolding own_by and_then
returns-in-Indexed c = rw c.in-Indexed.is c.indexed_checks.ensures
