-- `reading_item::tags_of` meets its contract. Assumes nothing.
use native.Mathlib.Omega.{arith}
use Rattle.format.specs.Reading.{tags_of}
use Rattle.reading_item.proofs.tags_of.Goals as goal

pub returns-in-Fixed : goal.returns-in-Fixed
unfolding tags_of
returns-in-Fixed c = rw c.in-Fixed.is (omega arith)

pub returns-in-Variable : goal.returns-in-Variable
unfolding tags_of
returns-in-Variable c = rw c.in-Variable.is

pub returns-in-Group : goal.returns-in-Group
unfolding tags_of
returns-in-Group c = rw c.in-Group.is

pub returns-in-Genus : goal.returns-in-Genus
unfolding tags_of
returns-in-Genus c = rw c.in-Genus.is

pub returns-in-Indexed : goal.returns-in-Indexed
unfolding tags_of
returns-in-Indexed c = rw c.in-Indexed.is
