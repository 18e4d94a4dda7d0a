-- `walk::found_in` meets its contract. Assumes nothing.
use Rattle.walk_state.specs.Walking.{found_in}
use Rattle.walk.proofs.found_in.Goals as goal

pub elements-requires : goal.elements-requires
elements-requires c = let r = rw c.in-Item.is at c.requires in r.0

pub elements-requires-in-Item : goal.elements-requires-in-Item
elements-requires-in-Item c = let r = rw c.in-Item.is at c.requires in r.1

pub returns-in-Item : goal.returns-in-Item
unfolding found_in
returns-in-Item c = rw (c.in-Item.is, c.elements.ensures, c.elements-in-Item.ensures)

pub returns-in-Refused : goal.returns-in-Refused
unfolding found_in
returns-in-Refused c = rw (c.in-Refused.is, c.place_in.ensures)

pub returns-in-End : goal.returns-in-End
unfolding found_in
returns-in-End c = rw c.in-End.is
