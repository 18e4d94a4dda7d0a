-- `framing::frame_next_head` meets its contract. Assumes nothing.
use Rattle.framing.specs.Next.{next_by}
use Rattle.framing.proofs.frame_next_head.Goals as goal

pub returns-then-first : goal.returns-then-first
unfolding next_by
returns-then-first c = rw c.if-first.true c.frame_ruled_head.ensures

pub returns-else-first : goal.returns-else-first
unfolding next_by
returns-else-first c = rw c.if-first.false c.frame_head.ensures
