-- `groups_order::room_for` meets its contract: by the pause. Assumes nothing.
use Rattle.groups_order.proofs.Laws.{no_room, has_room, no_walk, spent}
use borrow.Author.Rules.{rules}
use Rattle.groups_order.proofs.room_for.Goals as goal

pub returns-then-room-size : goal.returns-then-room-size
returns-then-room-size c = no_room _ _ _ c.in-End.is (search rules)

pub returns-else-room-size : goal.returns-else-room-size
returns-else-room-size c = has_room _ _ _ c.in-End.is (search rules)

pub returns-in-Refused : goal.returns-in-Refused
returns-in-Refused c = no_walk _ _ _ _ _ c.in-Refused.is

pub returns-in-Spent : goal.returns-in-Spent
returns-in-Spent c = spent _ _ _ c.in-Spent.is
