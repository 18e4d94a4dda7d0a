-- `pieces_numbers::group_number` meets its contract. Assumes nothing.
use Rattle.pieces_numbers.proofs.Laws.{group-deep, group-short, group-long}
use Rattle.pieces.specs.Headers.{group_number}
use Rattle.pieces_numbers.proofs.group_number.Goals as goal

pub returns-then-depth-ge-MAX_DEPTH : goal.returns-then-depth-ge-MAX_DEPTH
returns-then-depth-ge-MAX_DEPTH c = search group-deep

pub returns-in-Fixed : goal.returns-in-Fixed
unfolding group_number
returns-in-Fixed c = rw c.in-Fixed.is

pub returns-in-Variable : goal.returns-in-Variable
unfolding group_number
returns-in-Variable c = rw c.in-Variable.is

pub returns-then-is_shortest : goal.returns-then-is_shortest
returns-then-is_shortest c = search group-short

pub returns-else-is_shortest : goal.returns-else-is_shortest
returns-else-is_shortest c = search group-long

pub returns-in-Genus : goal.returns-in-Genus
unfolding group_number
returns-in-Genus c = rw c.in-Genus.is

pub returns-in-Indexed : goal.returns-in-Indexed
unfolding group_number
returns-in-Indexed c = rw c.in-Indexed.is
