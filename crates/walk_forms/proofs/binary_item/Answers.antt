-- `walk_forms::binary_item` meets its contract. Assumes nothing.
use Rattle.walk_state.specs.Walking.{binary_item}
use Rattle.walk_forms.proofs.binary_item.Goals as goal

pub returns-in-Item : goal.returns-in-Item
unfolding binary_item
returns-in-Item c = rw c.in-Item.is

pub returns-in-Refused : goal.returns-in-Refused
unfolding binary_item
returns-in-Refused c = rw c.in-Refused.is

pub returns-in-End : goal.returns-in-End
unfolding binary_item
returns-in-End c = rw c.in-End.is
