-- `judging::own_text` meets its contract. Assumes nothing.
use Rattle.judging.specs.Own.{own_by}
use Rattle.judging.proofs.own_text.Goals as goal

pub returns-in-Fixed : goal.returns-in-Fixed
unfolding own_by
returns-in-Fixed c = rw c.in-Fixed.is (rw (c.behind_text-b.ensures, c.fixed_checks.ensures) at c.after.ensures)

pub returns-in-Variable : goal.returns-in-Variable
unfolding own_by
returns-in-Variable c = rw c.in-Variable.is (rw (c.behind_text-b-in-Variable.ensures, c.variable_checks-v.ensures) at c.after-in-Variable.ensures)

pub returns-in-Group : goal.returns-in-Group
unfolding own_by
returns-in-Group c = rw c.in-Group.is (rw c.units_behind-units.ensures at c.group_checks.ensures)

pub returns-in-Genus : goal.returns-in-Genus
unfolding own_by
returns-in-Genus c = rw c.in-Genus.is

pub returns-in-Indexed : goal.returns-in-Indexed
unfolding own_by
returns-in-Indexed c = rw c.in-Indexed.is (rw (c.behind_text-b-in-Indexed.ensures, c.indexed_checks.ensures) at c.after-in-Indexed.ensures)
