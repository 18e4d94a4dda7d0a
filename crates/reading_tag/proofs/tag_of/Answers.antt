-- `reading_tag::tag_of` meets its contract: a row, or nothing. Assumes nothing.
use mathlib.Core.Path.{refl}
use Rattle.format.specs.Values.{tag_of}
use Rattle.format.specs.Reading.{padded}
use Rattle.reading_tag.proofs.tag_of.Goals as goal

pub returns-in-Fixed : goal.returns-in-Fixed
returns-in-Fixed c = rw c.in-Fixed.is c.row_tag.ensures

pub returns-in-Variable : goal.returns-in-Variable
unfolding tag_of padded
returns-in-Variable c = rw c.in-Variable.is (λ _. refl)

pub returns-in-Group : goal.returns-in-Group
unfolding tag_of padded
returns-in-Group c = rw c.in-Group.is (λ _. refl)

pub returns-in-Genus : goal.returns-in-Genus
unfolding tag_of padded
returns-in-Genus c = rw c.in-Genus.is (λ _. refl)

pub returns-in-Indexed : goal.returns-in-Indexed
unfolding tag_of padded
returns-in-Indexed c = rw c.in-Indexed.is (λ _. refl)
