-- `mixed_turn::put_item` meets its contract. Assumes nothing.
use Rattle.mixed_turn.proofs.Laws.{found_turn}
use Rattle.mixed_turn.proofs.put_item.Goals as goal

pub returns : goal.returns
returns c = search found_turn
