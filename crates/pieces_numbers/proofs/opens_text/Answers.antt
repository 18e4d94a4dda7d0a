-- `pieces_numbers::opens_text` meets its contract. Assumes nothing.
use Rattle.format.specs.Registry.{is_text}
use Rattle.pieces.specs.Headers.{opens_text}
use Rattle.pieces_numbers.proofs.opens_text.Goals as goal

pub returns-in-Fixed : goal.returns-in-Fixed
unfolding opens_text
returns-in-Fixed c = rw c.in-Fixed.is

pub returns-in-Variable : goal.returns-in-Variable
unfolding opens_text is_text
returns-in-Variable c = rw c.in-Variable.is

pub returns-in-Group : goal.returns-in-Group
unfolding opens_text
returns-in-Group c = rw c.in-Group.is

pub returns-in-Genus : goal.returns-in-Genus
unfolding opens_text
returns-in-Genus c = rw c.in-Genus.is

pub returns-in-Indexed : goal.returns-in-Indexed
unfolding opens_text
returns-in-Indexed c = rw c.in-Indexed.is
