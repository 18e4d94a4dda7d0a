-- `pieces_numbers::lead_of` meets its contract. Assumes nothing.
use Rattle.pieces.specs.Headers.{lead_of}
use Rattle.pieces_numbers.proofs.lead_of.Goals as goal

pub returns-in-Fixed : goal.returns-in-Fixed
unfolding lead_of
returns-in-Fixed c = rw c.in-Fixed.is

pub returns-in-Variable : goal.returns-in-Variable
unfolding lead_of
returns-in-Variable c = rw c.in-Variable.is

pub returns-in-Group : goal.returns-in-Group
unfolding lead_of
returns-in-Group c = rw c.in-Group.is

pub returns-in-Genus : goal.returns-in-Genus
unfolding lead_of
returns-in-Genus c = rw c.in-Genus.is

pub returns-in-Indexed : goal.returns-in-Indexed
unfolding lead_of
returns-in-Indexed c = rw c.in-Indexed.is
