use Rattle.format.specs.Writing.{named_fixed}
use Rattle.writing_code.specs.Names.{as_named}
use Rattle.writing_code.proofs.row_of.Goals as goal

pub returns-in-Unknown : goal.returns-in-Unknown
unfolding named_fixed as_named
returns-in-Unknown c = rw c.in-Unknown.is

pub returns-in-Fixed : goal.returns-in-Fixed
unfolding named_fixed as_named
returns-in-Fixed c = rw (c.in-Short.is, c.in-Fixed.is)

pub returns-in-Variable : goal.returns-in-Variable
unfolding named_fixed as_named
returns-in-Variable c = rw (c.in-Short.is, c.in-Variable.is)

pub returns-in-Group : goal.returns-in-Group
unfolding named_fixed as_named
returns-in-Group c = rw (c.in-Short.is, c.in-Group.is)

pub returns-in-Genus : goal.returns-in-Genus
unfolding named_fixed as_named
returns-in-Genus c = rw (c.in-Short.is, c.in-Genus.is)

pub returns-in-Indexed : goal.returns-in-Indexed
unfolding named_fixed as_named
returns-in-Indexed c = rw (c.in-Short.is, c.in-Indexed.is)

pub returns-in-Long : goal.returns-in-Long
unfolding named_fixed as_named
returns-in-Long c = rw c.in-Long.is

pub returns-in-LargeVariable : goal.returns-in-LargeVariable
unfolding named_fixed as_named
returns-in-LargeVariable c = rw c.in-LargeVariable.is

pub returns-in-LargeGroup : goal.returns-in-LargeGroup
unfolding named_fixed as_named
returns-in-LargeGroup c = rw c.in-LargeGroup.is

pub returns-in-Version : goal.returns-in-Version
unfolding named_fixed as_named
returns-in-Version c = rw c.in-Version.is
