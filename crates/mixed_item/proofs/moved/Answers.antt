-- `mixed_item::moved` meets its contract. Assumes nothing.
use Rattle.mixed_item.proofs.Laws.{moved-accepted, moved-far, moved_on}
use Rattle.mixed_item.proofs.moved.Goals as goal

pub returns-then-place-gt-FARTHEST : goal.returns-then-place-gt-FARTHEST
returns-then-place-gt-FARTHEST c = search moved-far

pub returns-in-Accepted : goal.returns-in-Accepted
returns-in-Accepted c = search moved-accepted

pub returns-else-place-gt-FARTHEST : goal.returns-else-place-gt-FARTHEST
returns-else-place-gt-FARTHEST c = search moved_on
