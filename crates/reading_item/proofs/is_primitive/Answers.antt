-- `reading_item::is_primitive` meets its contract. Assumes nothing.
use Rattle.format.specs.Reading.{is_primitive}
use Rattle.reading_item.proofs.is_primitive.Goals as goal

pub returns-in-Fixed : goal.returns-in-Fixed
unfolding is_primitive
returns-in-Fixed c = rw c.in-Fixed.is

pub returns-in-Variable : goal.returns-in-Variable
unfolding is_primitive
returns-in-Variable c = rw c.in-Variable.is

pub returns-in-Group : goal.returns-in-Group
unfolding is_primitive
returns-in-Group c = rw c.in-Group.is

pub returns-in-Genus : goal.returns-in-Genus
unfolding is_primitive
returns-in-Genus c = rw c.in-Genus.is

pub returns-in-Indexed : goal.returns-in-Indexed
unfolding is_primitive
returns-in-Indexed c = rw c.in-Indexed.is
