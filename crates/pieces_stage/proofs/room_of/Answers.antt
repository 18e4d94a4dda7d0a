-- `pieces_stage::room_of` meets its contract. Assumes nothing.
use Rattle.pieces_stage.proofs.Laws.{room-top, room-inner}
use borrow.Author.Rules.{rules}
use Rattle.pieces_stage.proofs.room_of.Goals as goal

pub returns-then-depth-eq0 : goal.returns-then-depth-eq0
returns-then-depth-eq0 c = λ _ _. search room-top

pub returns : goal.returns
returns c = λ _ few. search (room-inner, rules)
