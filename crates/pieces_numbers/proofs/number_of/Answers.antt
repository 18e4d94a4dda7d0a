-- `pieces_numbers::number_of` meets its contract. Assumes nothing.
use Rattle.format.specs.Report.{verdict_byte}
use Rattle.pieces_numbers.proofs.number_of.Goals as goal

pub returns-in-Accepted : goal.returns-in-Accepted
unfolding verdict_byte
returns-in-Accepted c = rw c.in-Accepted.is

pub returns-in-Refused : goal.returns-in-Refused
unfolding verdict_byte
returns-in-Refused c = rw c.in-Refused.is
