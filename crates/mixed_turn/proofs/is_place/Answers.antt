-- `mixed_turn::is_place` meets its contract. Assumes nothing.
use Rattle.mixed_turn.proofs.Laws.{too_many, too_far, too-bad, by_end}
use Rattle.mixed_turn.proofs.is_place.Goals as goal

pub returns-then-room-here : goal.returns-then-room-here
returns-then-room-here c = search too_many

pub returns-then-here : goal.returns-then-here
returns-then-here c = search too_far

pub returns-then-here-2 : goal.returns-then-here-2
returns-then-here-2 c = search too-bad

pub returns : goal.returns
returns c = search by_end
