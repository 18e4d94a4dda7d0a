-- `mixed_count::size_general` meets its contract. Assumes nothing.
use Rattle.mixed_count.proofs.Laws.{size-item, size_none}
use Rattle.mixed_count.proofs.size_general.Goals as goal

pub returns-in-Item : goal.returns-in-Item
returns-in-Item c = search size-item

pub returns-in-Unframed : goal.returns-in-Unframed
returns-in-Unframed c = search size_none
