-- `framing::frame_head` meets its contract. Assumes nothing.
use borrow.Author.Tests.{lt-ltb, le-ltb}
use Rattle.format.specs.Framing.{frame_with}
use Rattle.framing.proofs.frame_head.Goals as goal

pub returns-then-len-lt1 : goal.returns-then-len-lt1
unfolding frame_with
returns-then-len-lt1 c = simp (lt-ltb _ _ c.if-len-lt1.true)

pub returns : goal.returns
unfolding frame_with
returns c = simp (le-ltb _ _ c.if-len-lt1.false) (rw (c.frame_opening-item.ensures, c.opening_by-op.ensures) at c.known_first.ensures)
