-- `reading_item::code_of` meets its contract. Assumes nothing.
use borrow.Author.Tests.{eq-eqb, ne_eqb}
use Rattle.format.specs.Reading.{code_of}
use Rattle.reading_item.proofs.code_of.Goals as goal

pub returns-in-Fixed : goal.returns-in-Fixed
unfolding code_of
returns-in-Fixed c = rw (c.in-Fixed.is, c.character.ensures)

pub returns-then-h-eq1 : goal.returns-then-h-eq1
unfolding code_of
returns-then-h-eq1 c = rw (c.in-Variable.is, c.character-t.ensures, eq-eqb _ _ c.if-h-eq1.true)

pub returns-else-h-eq1 : goal.returns-else-h-eq1
unfolding code_of
returns-else-h-eq1 c = rw (c.in-Variable.is, c.character-t.ensures, ne_eqb _ _ c.if-h-eq1.false)

pub returns-in-Group : goal.returns-in-Group
unfolding code_of
returns-in-Group c = rw c.in-Group.is

pub returns-in-Genus : goal.returns-in-Genus
unfolding code_of
returns-in-Genus c = rw c.in-Genus.is

pub returns-in-Indexed : goal.returns-in-Indexed
unfolding code_of
returns-in-Indexed c = rw c.in-Indexed.is
