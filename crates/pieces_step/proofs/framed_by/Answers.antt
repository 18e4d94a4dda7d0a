-- `pieces_step::framed_by` meets its contract. Assumes nothing.
use Rattle.walk_state.specs.Lent.{walk_at}
use Rattle.pieces_step.proofs.Laws.{framed_is}
use Rattle.pieces_step.proofs.framed_by.Goals as goal

pub returns : goal.returns
returns c = λ hs e. let p = c.requires in let a = c.args in framed_is (walk_at a.slots.now a.p) a.cs hs _ _ _ e (c.is_asked-first.ensures a.slots.now) (c.room_of-room.ensures p.0 p.1) c.frame_next_head.ensures
