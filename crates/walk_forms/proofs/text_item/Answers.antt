-- `walk_forms::text_item` meets its contract. Assumes nothing.
use Rattle.walk_state.specs.Walking.{text_item}
use Rattle.walk_forms.proofs.text_item.Goals as goal

pub returns-in-Item : goal.returns-in-Item
unfolding text_item
returns-in-Item c = rw c.in-Item.is

pub returns-in-Refused : goal.returns-in-Refused
unfolding text_item
returns-in-Refused c = rw c.in-Refused.is

pub returns-in-End : goal.returns-in-End
unfolding text_item
returns-in-End c = rw c.in-End.is
