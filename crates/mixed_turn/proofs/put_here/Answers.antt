-- `mixed_turn::put_here` meets its contract. Assumes nothing.
use Rattle.mixed_turn.proofs.Laws.{rest-turn, item-turn}
use Rattle.mixed_turn.proofs.put_here.Goals as goal

pub returns-in-Rest : goal.returns-in-Rest
returns-in-Rest c = search rest-turn

pub returns-in-Item : goal.returns-in-Item
returns-in-Item c = search item-turn
