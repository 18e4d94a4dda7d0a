-- `second_characters::strangers` meets its contract. Assumes nothing.
use Rattle.second_characters.proofs.Found.{stranger-here, stranger-none}
use Rattle.second_characters.proofs.strangers.Goals as goal

pub returns-then-place-to : goal.returns-then-place-to
returns-then-place-to c = search stranger-here

pub returns : goal.returns
returns c = search stranger-none
