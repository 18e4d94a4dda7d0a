-- `mixed_here::general` meets its contract. Assumes nothing.
use Rattle.mixed_here.proofs.Laws.{general-rest, general-item}
use Rattle.mixed_here.proofs.general.Goals as goal

pub returns-in-Unframed : goal.returns-in-Unframed
returns-in-Unframed c = search general-rest

pub returns-in-Item : goal.returns-in-Item
returns-in-Item c = search general-item
