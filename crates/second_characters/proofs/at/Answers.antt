-- `second_characters::at` meets its contract. Assumes nothing.
use Rattle.second_characters.proofs.Found.{text-there, text-past}
use Rattle.second_characters.proofs.at.Goals as goal

pub returns-then-i-t : goal.returns-then-i-t
returns-then-i-t c = search text-there

pub returns-else-i-t : goal.returns-else-i-t
returns-else-i-t c = search text-past
