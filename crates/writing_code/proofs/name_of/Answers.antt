use Rattle.format.specs.Writing.{named}
use Rattle.writing_code.proofs.name_of.Goals as goal

pub returns-in-Fixed : goal.returns-in-Fixed
unfolding named
returns-in-Fixed c = rw (c.in-Fixed.is, ← c.sextet-l.ensures, ← c.fixed-op.ensures) c.row_of.ensures

pub returns-in-Small : goal.returns-in-Small
unfolding named
returns-in-Small c = rw c.in-Small.is c.type_of.ensures

pub returns-in-Large : goal.returns-in-Large
unfolding named
returns-in-Large c = rw c.in-Large.is c.type_of-in-Large.ensures
