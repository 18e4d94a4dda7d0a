-- `indexed_name::row_of` meets its contract, kind by kind. Assumes nothing.
use Rattle.indexed_name.specs.Names.{as_named, row_of}
use Rattle.indexed_name.proofs.row_of.Goals as goal

pub returns-in-Fixed : goal.returns-in-Fixed
unfolding as_named row_of
returns-in-Fixed c = rw c.in-Fixed.is

pub returns-in-Variable : goal.returns-in-Variable
unfolding as_named row_of
returns-in-Variable c = rw c.in-Variable.is

pub returns-in-Group : goal.returns-in-Group
unfolding as_named row_of
returns-in-Group c = rw c.in-Group.is

pub returns-in-Genus : goal.returns-in-Genus
unfolding as_named row_of
returns-in-Genus c = rw c.in-Genus.is

pub returns-in-Indexed : goal.returns-in-Indexed
unfolding as_named row_of
returns-in-Indexed c = rw c.in-Indexed.is
