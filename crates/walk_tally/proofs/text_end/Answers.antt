-- `walk_tally::text_end` meets its contract. Assumes nothing.
use Rattle.walk_tally.specs.Counting.{text_end}
use Rattle.walk_tally.proofs.text_end.Goals as goal

pub returns-in-Item : goal.returns-in-Item
unfolding text_end
returns-in-Item c = rw c.in-Item.is

pub returns-in-Refused : goal.returns-in-Refused
unfolding text_end
returns-in-Refused c = rw c.in-Refused.is

pub returns-in-End : goal.returns-in-End
unfolding text_end
returns-in-End c = rw c.in-End.is
